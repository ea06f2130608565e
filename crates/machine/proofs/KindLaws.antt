-- The kinds of word by cases: what holds of each of them holds of every kind. It is the only place that tells the kinds
-- apart by their numbers. Assumes nothing.
use Prim.Native.Nat.{ℕ, zero, suc, ◌<◌}
use mathlib.Core.Path.{◌≡◌}
use mathlib.Core.Bool.{true, false≢true, and-eq-true_iff}
use native.Mathlib.Omega.{arith}
use lib.Dec.{leb}
use borrow.Author.Tests.{leb-true}
use Rattle.machine.specs.Words.{STAY, COME, FLICKER, GO, LOOK, CANCEL, is_kind}

pub by_kind : (P : ℕ → Type 0)
    → P STAY
    → P COME
    → P FLICKER
    → P GO
    → P LOOK
    → P CANCEL
    → (k : ℕ) → is_kind k ≡ true → P k
by_kind P stay come flicker go look cancel zero h = absurd (false≢true h)
by_kind P stay come flicker go look cancel (suc zero) h = stay
by_kind P stay come flicker go look cancel (suc (suc zero)) h = come
by_kind P stay come flicker go look cancel (suc (suc (suc zero))) h = flicker
by_kind P stay come flicker go look cancel (suc (suc (suc (suc zero)))) h = go
by_kind P stay come flicker go look cancel (suc (suc (suc (suc (suc zero))))) h = look
by_kind P stay come flicker go look cancel (suc (suc (suc (suc (suc (suc zero)))))) h = cancel
by_kind P stay come flicker go look cancel (suc (suc (suc (suc (suc (suc (suc k))))))) h =
    let n = suc (suc (suc (suc (suc (suc (suc k)))))) in
    absurd (omega (arith, leb-true n CANCEL ((and-eq-true_iff (leb STAY n) (leb n CANCEL)).0 h).1))

-- four bits hold a kind
pub kind_low : (k : ℕ) → is_kind k ≡ true → k < 16
kind_low =
    by_kind (λ k. k < 16) (omega arith) (omega arith) (omega arith) (omega arith) (omega arith) (omega arith)
