-- The tables of the longest silence: a front of processes comes down from level to level in step, and leaves one behind
-- on each.
--
--   Low n l c r       <=>  r is at 21 to 24 on level l, with c moves due until it has decided there.
--   High q r          <=>  r is at 21 to 23 on level q with bb set.
--   FrontRow n l c q r  <=>  q shows its act and has all others in est; it is Low up to number l, and High above.
--   Front n l c t     <=>  t is sound, and has n such rows; turn[q] is q above l, and at l once everybody pushed there.
--
--   front_turn        no turn cell decides whether a row is such a row
--   front_silent, front_unbroken    nobody is at 30, nor at 20, so that a round is unbroken
--
-- Processes 0 to l are the front; a process q above it was left behind on level q, for turn[q] is its own number.
-- Assumes nothing.
use Prim.Native.Nat.{ℕ, ◌+◌, ◌≤◌, ◌<◌}
use mathlib.Core.Path.{◌≡◌}
use native.Mathlib.Decide.{dec_le}
use native.Mathlib.Omega.{arith}
use lib.ListN.{length}
use borrow.Author.Tests.{ne_eqb}
use Rattle.counting.specs.Sets.{size}
use Rattle.counting.proofs.CountLaws.{count_none}
use Rattle.machine.specs.Rows.{with_turn}
use Rattle.machine.specs.Tables.{Table, row, table_refusal}
use Rattle.machine.specs.Census.{is_critical, critical}
use Rattle.machine.specs.Rounds.{Unbroken}
use Rattle.machine.specs.declared.Row.{Row}
use Rattle.machine.proofs.BrokenRounds.{entered_unbroken}
use Rattle.silence.proofs.Due.{due}

pub record Low (n l c : ℕ) (r : Row) : Type 0 where
  pub from_21 : 21 ≤ r.location
  pub to_24 : r.location ≤ 24
  pub level_is : r.level ≡ l
  pub due_is : due n r ≡ c

pub record High (q : ℕ) (r : Row) : Type 0 where
  pub from_21 : 21 ≤ r.location
  pub to_23 : r.location ≤ 23
  pub level_is : r.level ≡ q
  pub bb_set : r.bb ≡ 0 → ⊥

pub record FrontRow (n l c q : ℕ) (r : Row) : Type 0 where
  pub act_shown : r.act ≡ 0 → ⊥
  pub est_full : size r.est + 1 ≡ n
  pub low : q ≤ l → Low n l c r
  pub high : l < q → High q r

-- with n + 3 moves due a process of the front is at 24, so with n + 2 the last of them, which is l, has pushed
pub record Front (n l c : ℕ) (t : Table) : Type 0 where
  pub sound : table_refusal t ≡ 0
  pub size_is : length t ≡ n
  pub level_low : l < n
  pub rows : (q : ℕ) → q < n → FrontRow n l c q (row t q)
  pub turns : (q : ℕ) → l < q → q < n → (row t q).turn ≡ q
  pub last_turn : c ≤ n + 2 → (row t l).turn ≡ l

-- ---- one row

module _ {n l c q : ℕ} {r : Row} (f : FrontRow n l c q r) where
  pub front_turn : (v : ℕ) → FrontRow n l c q (with_turn v r)
  front_turn v =
      record {
        act_shown = f.act_shown;
        est_full = f.est_full;
        low =
            λ i.
            let a = f.low i in
            record { from_21 = a.from_21; to_24 = a.to_24; level_is = a.level_is; due_is = a.due_is };
        high =
            λ i.
            let a = f.high i in
            record { from_21 = a.from_21; to_23 = a.to_23; level_is = a.level_is; bb_set = a.bb_set };
      }

  pub front_inside : (21 ≤ r.location) × (r.location ≤ 24)
  front_inside = go (dec_le q l)
    where
      go : Dec (q ≤ l) → (21 ≤ r.location) × (r.location ≤ 24)
      go (yes i) = ((f.low i).from_21, (f.low i).to_24)
      go (no ni) = let a = f.high (omega (arith, ni)) in (a.from_21, omega (arith, a.to_23))

-- ---- the table

pub front_silent : (n l c : ℕ) (t : Table) → Front n l c t → critical t ≡ 0
front_silent n l c t f =
    count_none (λ q. is_critical (row t q)) (length t)
    (λ q i.
    let a = (front_inside (f.rows q (omega (arith, f.size_is)))).1 in
    ne_eqb (row t q).location 30 (λ e. omega arith))

pub front_unbroken : (n l c : ℕ) (t : Table) → Front n l c t → Unbroken t
front_unbroken n l c t f =
    entered_unbroken t f.sound
    (λ q i e. omega (arith, e, (front_inside (f.rows q (omega (arith, f.size_is)))).0))
