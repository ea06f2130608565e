-- What each place for printed bytes keeps to.
--
--   SinkLaws space appended  <=>  nothing is put by putting no bytes; bytes after bytes are put as one list; and what is
--                                 put takes room.
--
-- Assumes nothing.
use Rattle.std.specs.Prelude.{ℕ, ◌+◌, ◌≡◌, List, [], ◌++◌, length}

pub record SinkLaws {S : Type 0} (space : S → ℕ) (appended : S → List ℕ → S → Type 0) : Type 0 where
  pub none : (p : S) → appended p [] p
  pub joined : {p q r : S} {s u : List ℕ} → appended p s q → appended q u r → appended p (s ++ u) r
  pub takes_room : {p q : S} {s : List ℕ} → appended p s q → space p ≡ space q + length s
