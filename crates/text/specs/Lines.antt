-- The line of a taken word.
--
--   taken_line w  ==  its five numbers and its shared cell, and a line feed.
--
-- Assumes nothing.
use Rattle.std.specs.Prelude.{ℕ, List, [], ◌∷◌, ◌++◌}
use Rattle.machine.specs.Text.{spaced, cell_text}
use Rattle.text.specs.declared.lines.TakenWord.{TakenWord}

abbrev pub taken_line : TakenWord → List ℕ
taken_line w =
    spaced (w.place ∷ w.process ∷ w.from ∷ w.to ∷ w.inside ∷ []) ++ (32 ∷ cell_text w.cell ++ (10 ∷ []))
