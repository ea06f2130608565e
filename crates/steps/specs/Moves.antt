-- What the functions inside the step require and ensure.
--
--   kind_event k r     ==   the event of an allowed kind at a row, read before the step; go_event r is that of GO.
--   kind_told k p a r  ==   what the step tells of it, of process p with argument a.
--   row_refusal t k p a  ==  the first of 10 and 11 that applies, or 0: what refuses it but 16, 17 and 15.
--   Ready x p         <=>  process p of the table x can move: what a sound table gives.
--   At x p l          <=>  it can, and is at location l.
--   Free x k p        <=>  it can, and kind k is allowed where it is.
--   Sees x p q        <=>  it can, and q is a process.
--   Moves x k p a y s <=>  kind k with argument a made y of the table x and tells s, where it is allowed.
--   Goes x p y s      <=>  so did GO.
--   TakesBy n x k p a y s  <=>  kind k with argument a made y of the table x and answered s, by the refusal n, or 0.
--   Takes x k p a y s <=>  so it did, by its refusal without settings.
--   TakesUnder m x k p a y s  <=>  so it did, by its refusal under the settings m.
--
-- Assumes nothing.
use Rattle.std.specs.Prelude.{ℕ, ◌^◌, ◌≤◌, ◌<◌, ◌≡◌, true, cond, ◌&&◌, not, eqb, length, Result, Ok, Err}
use Rattle.machine.specs.Refusals.{accepted, not_allowed, bad_argument, numbered}
use Rattle.machine.specs.Tables.{Table, row}
use Rattle.machine.specs.Words.{COME, GO}
use Rattle.machine.specs.Shared.{cell_at}
use Rattle.machine.specs.Steps.{moved, allowed, argument_fits, refusal_at}
use Rattle.machine.specs.Settings.{forbidden_by, before15}
use Rattle.machine.specs.declared.Row.{Row}
use Rattle.machine.specs.declared.Event.{Event}
use Rattle.machine.specs.declared.Settings.{Settings}
use Rattle.machine.specs.declared.Told.{Told}
use Rattle.machine.specs.declared.Refusal.{Refusal}

-- ---- what is told, read before the step

-- GO at 21 with level 0 goes to 30, GO at 30 leaves it, and no other step does either
abbrev pub go_event : Row → Event
go_event r =
    cond (eqb r.location 21 && eqb r.level 0) Event.Arrival
    (cond (eqb r.location 30) Event.Departure Event.Quiet)

abbrev pub kind_event : ℕ → Row → Event
kind_event k r = cond (eqb k COME) Event.Come (cond (eqb k GO) (go_event r) Event.Quiet)

abbrev pub kind_told : ℕ → ℕ → ℕ → Row → Told
kind_told k p a r = record { event = kind_event k r; cell = cell_at k p a r }

-- ---- what refuses, but for settings and counts

abbrev pub row_refusal : Table → ℕ → ℕ → ℕ → ℕ
row_refusal t k p a =
    cond (not (allowed k (row t p))) not_allowed
    (cond (not (argument_fits (length t) k (row t p) a)) bad_argument accepted)

-- ---- what the functions require

pub record Ready (x : Table) (p : ℕ) : Type 0 where
  pub one : p < length x
  pub few : length x ≤ 16
  pub low : (row x p).level < length x
  pub listed : (row x p).lis < 2 ^ length x

pub record At (x : Table) (p l : ℕ) : Type 0 where
  pub ready : Ready x p
  pub there : (row x p).location ≡ l

pub record Free (x : Table) (k p : ℕ) : Type 0 where
  pub ready : Ready x p
  pub may : allowed k (row x p) ≡ true

pub record Sees (x : Table) (p q : ℕ) : Type 0 where
  pub ready : Ready x p
  pub seen : q < length x

-- ---- what the functions ensure

pub record Moves (x : Table) (k p a : ℕ) (y : Table) (s : Told) : Type 0 where
  pub told_is : s ≡ kind_told k p a (row x p)
  pub becomes : y ≡ moved x k p a

-- GO has no argument
abbrev pub Goes : Table → ℕ → Table → Told → Type 0
Goes x p y s = Moves x GO p 0 y s

pub record TakesBy (n : ℕ) (x : Table) (k p a : ℕ) (y : Table) (s : Result Told Refusal) : Type 0 where
  pub answer_is : numbered s ≡ cond (eqb n accepted) (Ok (kind_told k p a (row x p))) (Err n)
  pub becomes : y ≡ cond (eqb n accepted) (moved x k p a) x

abbrev pub Takes : Table → ℕ → ℕ → ℕ → Table → Result Told Refusal → Type 0
Takes x k p a y s = TakesBy (refusal_at x k p a) x k p a y s

-- 16 and 17 after 11 and before 15
abbrev pub refusal_by : Settings → Table → ℕ → ℕ → ℕ → ℕ
refusal_by m t k p a = before15 (forbidden_by m t k p) (refusal_at t k p a)

abbrev pub TakesUnder : Settings → Table → ℕ → ℕ → ℕ → Table → Result Told Refusal → Type 0
TakesUnder m x k p a y s = TakesBy (refusal_by m x k p a) x k p a y s
