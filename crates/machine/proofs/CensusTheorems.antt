-- The waiting figure and section 4.1 of the paper: a competing period starts with entry(p), which is GO at 20, and ends
-- with exit(p), GO at 30; a process waits in it until it is in the critical section.
--
--   competing_parts    in a sound table below(N), which counts all that compete, is waiting and critical together
--   waiting_starts     a process begins to wait by its own step from 20 to 21, and by no other accepted word
--   waiting_ends       and ceases to by its own step from 21 to 30, and by no other accepted word
--
-- Assumes nothing.
use Prim.Native.Nat.{ℕ, ◌+◌}
use mathlib.Core.Path.{◌≡◌, refl, ap, ◌∙◌}
use mathlib.Core.Bool.{Bool, true, false, ◌&&◌, not, and-true}
use lib.Dec.{eqb}
use lib.ListN.{length}
use borrow.Author.Tests.{eqb-true, lt-ltb}
use Rattle.counting.specs.Sums.{bit}
use Rattle.counting.proofs.CountLaws.{count-parts}
use Rattle.machine.specs.Rows.{blank, with_location}
use Rattle.machine.specs.Tables.{Table, row, one_of, locations, table_refusal, competes}
use Rattle.machine.specs.Words.{process_of}
use Rattle.machine.specs.Steps.{refusal_of, after_word}
use Rattle.machine.specs.Census.{is_below, is_waiting, is_critical, below, waiting, critical}
use Rattle.machine.specs.declared.Row.{Row}
use Rattle.machine.proofs.OneOfLaws.{by_test}
use Rattle.machine.proofs.SoundRows.{SoundRow, sound-row}
use Rattle.machine.proofs.Arcs.{begins}

-- a process at location l; no other cell decides whether it competes, waits or is critical
abbrev at : ℕ → Row
at l = with_location l blank

-- ---- who competes waits or is at 30

-- by one test of the eight locations
parted : (l : ℕ) → one_of l locations ≡ true → bit (competes (at l)) ≡ bit (is_waiting (at l)) + bit (is_critical (at l))
parted l h =
    eqb-true _ _
    (by_test (λ v. eqb (bit (competes (at v))) (bit (is_waiting (at v)) + bit (is_critical (at v)))) l locations refl h)

row_parted : {n q : ℕ} (r : Row) → SoundRow n q r → bit (is_below n r) ≡ bit (is_waiting r) + bit (is_critical r)
row_parted {n} r s =
    ap (λ (b : Bool). bit (competes r && b)) (lt-ltb r.level n s.level_low)
    ∙ ap bit (and-true (competes r))
    ∙ parted r.location s.location_known

pub competing_parts : (t : Table) → table_refusal t ≡ 0 → below (length t) t ≡ waiting t + critical t
competing_parts t z =
    count-parts (λ q. is_below (length t) (row t q)) (λ q. is_waiting (row t q)) (λ q. is_critical (row t q)) (length t)
    (λ q l. row_parted (row t q) (sound-row t z q l))

-- ---- who begins and who ceases to wait

pub waiting_starts : (t : Table) (w q : ℕ)
    → refusal_of t w ≡ 0
    → is_waiting (row t q) ≡ false
    → is_waiting (row (after_word t w) q) ≡ true
    → (q ≡ process_of w) × ((row t q).location ≡ 20) × ((row (after_word t w) q).location ≡ 21)
waiting_starts = begins (λ l. is_waiting (at l)) 20 21 refl

pub waiting_ends : (t : Table) (w q : ℕ)
    → refusal_of t w ≡ 0
    → is_waiting (row t q) ≡ true
    → is_waiting (row (after_word t w) q) ≡ false
    → (q ≡ process_of w) × ((row t q).location ≡ 21) × ((row (after_word t w) q).location ≡ 30)
waiting_ends t w q z before after =
    begins (λ l. not (is_waiting (at l))) 21 30 refl t w q z (ap not before) (ap not after)
