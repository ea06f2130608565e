-- Event words: the steps that a process may be told to take, with its choice (MANUAL, "Event words").
--
--   kind_of process_of argument_of  ==   the parts of a word.
--   word_of k p a                   ==   the word of these parts.
--   formed w                        <=>  its kind is one of the six and its spare bits are 0.
--   kind_number k                   ==   the number of a kind; kind_in n is the number of a kind, or 8 for another.
--   apart w                         ==   the word taken apart, or 8, or 9 for a process over 15.
--   together k p a                  ==   the parts put together, or 8, 9 or 11.
--
-- Assumes nothing.
use Rattle.std.specs.Prelude.{ℕ, ◌+◌, ◌*◌, ◌/◌, ◌%◌, ◌^◌, Bool, cond, ◌&&◌, not, eqb, leb, Result, Ok, Err}
use Rattle.machine.specs.Refusals.{bad_kind, no_process, bad_argument}
use Rattle.machine.specs.declared.Refusal.{Refusal}
use Rattle.machine.specs.declared.Kind.{Kind}
use Rattle.machine.specs.declared.Kind.TheVariants.{Stay, Come, Flicker, Go, Look, Cancel}
use Rattle.machine.specs.declared.Parts.{Parts}

-- ---- the six kinds

abbrev pub STAY : ℕ
STAY = 1

abbrev pub COME : ℕ
COME = 2

abbrev pub FLICKER : ℕ
FLICKER = 3

abbrev pub GO : ℕ
GO = 4

abbrev pub LOOK : ℕ
LOOK = 5

abbrev pub CANCEL : ℕ
CANCEL = 6

abbrev pub is_kind : ℕ → Bool
is_kind k = leb STAY k && leb k CANCEL

abbrev pub kind_number : Kind → ℕ
kind_number Stay = STAY
kind_number Come = COME
kind_number Flicker = FLICKER
kind_number Go = GO
kind_number Look = LOOK
kind_number Cancel = CANCEL

abbrev pub kind_in : ℕ → Result ℕ ℕ
kind_in n = cond (is_kind n) (Ok n) (Err bad_kind)

-- the kind that an answer has, as its number
abbrev pub kinds_in : Result Kind Refusal → Result ℕ Refusal
kinds_in (Ok k) = Ok (kind_number k)
kinds_in (Err e) = Err e

-- ---- the parts of a word

-- bits 31 to 28
abbrev pub kind_of : ℕ → ℕ
kind_of w = w / 2 ^ 28

-- bits 23 to 16
abbrev pub process_of : ℕ → ℕ
process_of w = w / 2 ^ 16 % 2 ^ 8

-- bits 7 to 0
abbrev pub argument_of : ℕ → ℕ
argument_of w = w % 2 ^ 8

-- bits 27 to 24 and 15 to 8 are 0
abbrev pub spare_clear : ℕ → Bool
spare_clear w = eqb (w / 2 ^ 24 % 2 ^ 4) 0 && eqb (w / 2 ^ 8 % 2 ^ 8) 0

abbrev pub formed : ℕ → Bool
formed w = is_kind (kind_of w) && spare_clear w

abbrev pub word_of : ℕ → ℕ → ℕ → ℕ
word_of k p a = k * 2 ^ 28 + p * 2 ^ 16 + a

-- ---- taken apart and put together, without a table

-- the parts of a word as numbers
pub record Fields : Type 0 where
  pub kind : ℕ
  pub process : ℕ
  pub argument : ℕ

-- the parts that an answer has, as numbers
abbrev pub fields_in : Result Parts Refusal → Result Fields Refusal
fields_in (Ok s) = Ok (record { kind = kind_number s.kind; process = s.process; argument = s.argument })
fields_in (Err e) = Err e

abbrev pub apart : ℕ → Result Fields ℕ
apart w =
    cond (not (formed w)) (Err bad_kind)
    (cond (not (leb (process_of w) 15)) (Err no_process)
    (Ok (record { kind = kind_of w; process = process_of w; argument = argument_of w })))

abbrev pub together : ℕ → ℕ → ℕ → Result ℕ ℕ
together k p a =
    cond (not (is_kind k)) (Err bad_kind)
    (cond (not (leb p 15)) (Err no_process)
    (cond (not (leb a 255)) (Err bad_argument) (Ok (word_of k p a))))
