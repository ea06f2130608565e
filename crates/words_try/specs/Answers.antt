-- The answers of `words` as one number each: the parts of a word in decimal, a word, or a refusal. Assumes nothing.
use Rattle.std.specs.Prelude.{ℕ, ◌+◌, ◌*◌, Result, Ok, Err}
use Rattle.machine.specs.Words.{Fields}

abbrev pub parts : Result Fields ℕ → ℕ
parts (Ok p) = p.kind * 1000000 + p.process * 1000 + p.argument
parts (Err why) = why

abbrev pub answer : Result ℕ ℕ → ℕ
answer (Ok w) = w
answer (Err why) = why
