-- `passes` meets its contract. The invariant: the first r counts are put, the others 0, and no digit of an upper half is
-- joined just where the words so far have theirs. Assumes nothing.
use Prim.Native.Nat.{ℕ, ◌+◌, ◌*◌, ◌/◌, ◌%◌, ◌<◌}
use mathlib.Core.Path.{◌≡◌, refl, sym, ap, ap₂, ◌∙◌}
use mathlib.Core.Bool.{Bool, true, false, cond, ◌&&◌, and-eq-true_iff}
use mathlib.Core.List.{List}
use native.Mathlib.Numerals.{add-one}
use native.Mathlib.Omega.{arith}
use lib.Bits.{bit_or, bit_xor}
use lib.Dec.{eqb}
use lib.ListN.{get_or}
use borrow.Author.Tests.{eq-eqb}
use Rattle.counting.specs.Ranges.{every}
use Rattle.counting.proofs.TestLaws.{cond_le}
use Rattle.counting.proofs.RangeLaws.{filled, filled_start, filled_next}
use Rattle.machine.specs.Images.{PASSES, count_in, pass_place, passes_in}
use Rattle.image_theorems.proofs.RowWords.{readAt, read_at}
use Rattle.image_theorems.proofs.RoundTrip.{bare_count}
use Rattle.images.proofs.CountLaws.{sized_counted, sized_bare, upper_joined, fit_none, read_count, read_all, read_bare}
use Rattle.images.proofs.image.Image.passes.Goals as goal

pub loop-r-init : goal.loop-r-init
unfolding every
loop-r-init c = (
  filled_start (readAt c.args.self.now.size c.args.self.now.words.now c.args.q) 16,
  omega (arith, c.whole-blank.ensures, c.passes_upper.ensures),
  refl,
)

pub loop-r-preserved : goal.loop-r-preserved
unfolding every
loop-r-preserved c =
    let i = c.args.self.now in
    let few = i.sized.few in
    let l = c.loop-r in
    let at = c.pass_place-at in
    let upper : ℕ = PASSES * 4096 + c.args.q * 256 in
    let ws = i.words.now in
    let w : ℕ = get_or ws (at.result + l.r) 0 in
    let P : ℕ → Bool = λ j. eqb (get_or ws (at.result + j) 0 / 65536) (upper + j) in
    let within : l.r < i.size =
    omega (arith, c.counts-r-end.ensures, cond_le i.counted i.size 0 i.size (omega arith) (omega arith)) in (
      filled_next (readAt i.size ws c.args.q) 16 l.r _ l.list (omega arith)
          (read_count i.size ws c.args.q at.result l.r at.ensures within) l.invariant.0,
      omega (arith, l.invariant.1),
      ap (λ (x : ℕ). eqb (bit_or l.odd (bit_xor w x) / 65536) 0) l.invariant.1
          ∙ upper_joined l.odd w (upper + l.r)
          ∙ ap (λ (b : Bool). b && P l.r) l.invariant.2
          ∙ ap (every P) (sym (add-one l.r)),
    )

pub returns : goal.returns
unfolding every
returns c =
    let i = c.args.self.now in
    let n = i.size in
    let q = c.args.q in
    let l = c.loop-r in
    let at = c.pass_place-at in
    let ws = i.words.now in
    let upper : ℕ = PASSES * 4096 + q * 256 in
    let P : ℕ → Bool = λ j. eqb (get_or ws (at.result + j) 0 / 65536) (upper + j) in
    let end : (b : Bool) → i.counted ≡ b → l.r ≡ cond b n 0 =
    λ b e. (let at_end : l.r ≡ c.counts-r-end.result = omega arith in at_end) ∙ c.counts-r-end.ensures ∙ ap (λ (x : Bool). cond x n 0) e in
    let list_is : (b : Bool) → i.counted ≡ b → l.list ≡ passes_in n ws q =
    elim [
      | true ↦ λ e. l.invariant.0 ∙ read_all n ws q l.r i.sized.few (end true e)
      | false ↦ λ e.
          l.invariant.0 ∙ ap (filled (readAt n ws q) 16) (end false e)
          ∙ read_bare n ws q (sized_bare ws n i.counted i.sized e)
    ] in
    let own : get_or l.list q 0 ≡ count_in (get_or ws (pass_place n q q) 0) =
    ap (λ (v : List ℕ). get_or v q 0) (list_is i.counted refl) ∙ read_at n ws q i.sized.few q c.requires in
    record {
      list_value = list_is i.counted refl;
      fits =
          record {
            none =
                λ t f.
                let here = ap (λ (k : ℕ). get_or ws k 0 % 65536) {x = pass_place n q q} {y = at.result + q} (omega (arith, at.ensures)) in
                let same =
                ap₂ (λ (b : Bool) (v : ℕ). b && eqb v 0) (l.invariant.2 ∙ ap (every P) (end true t)) (own ∙ here) in
                fit_none n ws q i.sized.few c.requires (sized_counted ws n i.counted i.sized t) at.result upper at.ensures
                refl (sym same ∙ f);
            bare =
                λ t.
                let none = own ∙ bare_count ws n q q (sized_bare ws n i.counted i.sized t) in
                (and-eq-true_iff _ _).1 (l.invariant.2 ∙ ap (every P) (end false t), eq-eqb _ _ none);
          };
    }
