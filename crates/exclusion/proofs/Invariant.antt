-- The invariant, one field a clause, with the labels of sections 3.4 (K) and 3.5 (L, J) of the paper.
--
--   AheadInEst r    <=>  who is ahead is in est.
--   ActShown r      <=>  who competes shows act.
--   Invariant t     <=>  t is sound, bb is set only where it may be, each row has these, who is ahead competes, and
--                        t is bounded at every k.
--
-- Each clause speaks of every number q and k: past the end of the table the rows are blank, and all clauses hold there.
-- Assumes nothing.
use Prim.Native.Nat.{ℕ, ◌<◌}
use mathlib.Core.Path.{◌≡◌, sym, ◌∙◌, subst}
use mathlib.Core.Bool.{true, false≢true}
use native.Mathlib.Decide.{dec_lt}
use native.Mathlib.Omega.{arith}
use lib.ListN.{length}
use Rattle.counting.specs.Sets.{has, without}
use Rattle.counting.proofs.SetLaws.{set_of_lt, has-set_of, has_over, without_same, without_sub, without_lt}
use Rattle.machine.specs.Tables.{Table, row, table_refusal, competes}
use Rattle.machine.specs.System.{Cp}
use Rattle.machine.specs.declared.Row.{Row}
use Rattle.machine.proofs.BbInside.{BbInside}
use Rattle.exclusion.proofs.Bounded.{Bounded}

-- K0
abbrev pub AheadInEst : Row → Type 0
AheadInEst r = (x : ℕ) → has r.ahead x ≡ true → has r.est x ≡ true

-- K2
abbrev pub ActShown : Row → Type 0
ActShown r = competes r ≡ true → r.act ≡ 0 → ⊥

pub record Invariant (t : Table) : Type 0 where
  pub sound : table_refusal t ≡ 0
  -- L0 and L1
  pub bb_inside : (q : ℕ) → BbInside (row t q)
  pub ahead_in_est : (q : ℕ) → AheadInEst (row t q)
  pub act_shown : (q : ℕ) → ActShown (row t q)
  -- K1
  pub ahead_competes : (q x : ℕ) → has (row t q).ahead x ≡ true → competes (row t x) ≡ true
  -- J1
  pub bounded : (k : ℕ) → Bounded t k

-- ---- members of sets

-- a member of the competitors competes
pub competitor_competes : (t : Table) (x : ℕ) → has (Cp t) x ≡ true → competes (row t x) ≡ true
competitor_competes t x h = go (dec_lt x (length t))
  where
    go : Dec (x < length t) → competes (row t x) ≡ true
    go (yes l) = sym (has-set_of (λ q. competes (row t q)) (length t) x l) ∙ h
    go (no nl) =
        let bound = set_of_lt (λ q. competes (row t q)) (length t) in
        absurd (false≢true (sym (has_over (Cp t) (length t) x bound (omega (arith, nl))) ∙ h))

-- a member of s less p is a member of s, and is not p
pub without_member : (s p x : ℕ) → has (without s p) x ≡ true → (has s x ≡ true) × (x ≡ p → ⊥)
without_member s p x h = go (dec_lt x 16)
  where
    go : Dec (x < 16) → (has s x ≡ true) × (x ≡ p → ⊥)
    go (yes l) = (
      without_sub s p x l h,
      λ e. false≢true (sym (without_same s p) ∙ subst (λ (y : ℕ). has (without s p) y ≡ true) e h),
    )
    go (no nl) = absurd (false≢true (sym (has_over (without s p) 16 x (without_lt s p) (omega (arith, nl))) ∙ h))
