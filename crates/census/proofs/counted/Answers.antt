-- `counted` meets its contract. Assumes nothing.
use Prim.Native.Nat.{ℕ, ◌-◌}
use mathlib.Core.List.{List}
use mathlib.Core.Path.{◌≡◌, refl, ap, sym, ◌∙◌}
use native.Mathlib.Omega.{arith}
use lib.ListN.{length, get_or}
use borrow.Author.Rules.{rules}
use Rattle.counting.proofs.CountLaws.{count_zero}
use Rattle.machine.specs.Census.{is_critical, critical, waiting}
use Rattle.machine.proofs.SoundRows.{sound_few}
use Rattle.census.specs.Series.{below_from, held_from, figures_in}
use Rattle.census.proofs.SeriesLaws.{series_of, critical_by, series_zero, series_small, below_fits, held_fits}
use Rattle.census.proofs.SeriesLaws.{count_more, critical_away, critical_out, below_next, below_out}
use Rattle.census.proofs.SeriesLaws.{held_next, held_none_next, held_out, count_fits}
use Rattle.census.proofs.SeriesLaws.{below-figures, held-figures, all_compete}
use Rattle.census.proofs.CensusLaws.{census_counted}
use Rattle.census.proofs.counted.Goals as goal
use Rattle.census.proofs.counted.Goals.{then-competes+then-r-eq0, then-competes+else-r-eq0, else-competes}

pub overflow_cast-n : goal.overflow_cast-n
overflow_cast-n c =
    let few = sound_few c.args.rows.now c.requires in
    search (rules, arith)

pub loop-r-init : goal.loop-r-init
loop-r-init c =
    let t = c.args.rows.now in
    (sym (count_zero _), series_zero below_from t, series_zero held_from t)

pub add-requires : goal.add-requires
add-requires c =
    let l = c.loop-r in
    below_fits c.args.rows.now c.requires l.r-index (omega arith) _ l.below l.invariant.1
    (sym c.competes.ensures ∙ c.if-competes.true)

pub overflow_add-at_30 : goal.overflow_add-at_30
overflow_add-at_30 c =
    let t = c.args.rows.now in
    let l = c.loop-r in
    record {
      fits = count_fits is_critical t l.r-index (omega arith) (sound_few t c.requires) _ l.at_30 l.invariant.0;
    }

pub add-requires-then-r-eq0 : goal.add-requires-then-r-eq0
add-requires-then-r-eq0 c =
    let t = c.args.rows.now in
    let few = sound_few t c.requires in
    rw c.loop-r.invariant.2 (series_small held_from t c.loop-r.r-index 0 (omega arith) (omega arith))

pub add-requires-else-r-eq0 : goal.add-requires-else-r-eq0
add-requires-else-r-eq0 c =
    let l = c.loop-r in
    held_fits c.args.rows.now c.requires l.r-index (omega arith) _ l.held _ l.invariant.2 c.held_from.ensures

-- the counts with this row: at level 0, at a level above, and where it does not compete
pub loop-r-preserved : goal.loop-r-preserved
loop-r-preserved c =
    let t = c.args.rows.now in
    let l = c.loop-r in
    let v = l.invariant in
    elim c.if-competes.branch [
      | then-competes+then-r-eq0 w ↦
          let so = sym c.competes.ensures ∙ w.if-competes.true in (
            count_more is_critical t l.r-index (omega arith) _ l.at_30 _ v.0 w.at_30-is,
            below_next t c.requires l.r-index (omega arith) _ l.below _ v.1 so (w.below-is ∙ w.add.ensures),
            held_none_next t c.requires l.r-index (omega arith) _ l.held _ v.2 so w.if-r-eq0.true
                (w.held-is ∙ w.add-then-r-eq0.ensures),
          )
      | then-competes+else-r-eq0 w ↦
          let so = sym c.competes.ensures ∙ w.if-competes.true in (
            critical_away t c.requires l.r-index (omega arith) _ l.at_30 _ v.0 w.if-r-eq0.false w.at_30-is,
            below_next t c.requires l.r-index (omega arith) _ l.below _ v.1 so (w.below-is ∙ w.add.ensures),
            held_next t c.requires l.r-index (omega arith) _ l.held _ _ v.2 w.held_from.ensures
                (w.held-is ∙ w.add-else-r-eq0.ensures),
          )
      | else-competes w ↦
          let out = sym c.competes.ensures ∙ w.if-competes.false in (
            critical_out t c.requires l.r-index (omega arith) _ l.at_30 _ v.0 out w.at_30-is,
            below_out t c.requires l.r-index (omega arith) _ l.below _ v.1 out w.below-is,
            held_out t c.requires l.r-index (omega arith) _ l.held _ v.2 out w.held-is,
          )
    ]

-- ---- all rows are counted

pub overflow_sub-result : goal.overflow_sub-result
overflow_sub-result c =
    let t = c.args.rows.now in
    let l = c.loop-r in
    let e : l.r-index ≡ length t = omega arith in
    let all = ap (λ (a : List ℕ). get_or a 15 0) (l.invariant.1 ∙ ap (series_of below_from t) e) ∙ all_compete t c.requires in
    let inside : l.at_30 ≡ critical t = l.invariant.0 ∙ ap (critical_by t) e in
    omega (arith, all, inside)

pub figures_in-requires : goal.figures_in-requires
figures_in-requires c =
    let t = c.args.rows.now in
    let few = sound_few t c.requires in
    let l = c.loop-r in
    rw l.invariant.1 (series_small below_from t l.r-index (length t) (omega arith) (omega arith))

pub figures_in-requires-2 : goal.figures_in-requires-2
figures_in-requires-2 c =
    let t = c.args.rows.now in
    let few = sound_few t c.requires in
    let l = c.loop-r in
    rw l.invariant.2 (series_small held_from t l.r-index (length t) (omega arith) (omega arith))

pub returns : goal.returns
returns c =
    let t = c.args.rows.now in
    let l = c.loop-r in
    let e : l.r-index ≡ length t = omega arith in
    let b = l.invariant.1 ∙ ap (series_of below_from t) e in
    let h = l.invariant.2 ∙ ap (series_of held_from t) e in
    let all = ap (λ (a : List ℕ). get_or a 15 0) b ∙ all_compete t c.requires in
    let inside : l.at_30 ≡ critical t = l.invariant.0 ∙ ap (critical_by t) e in
    let w : get_or l.below 15 0 - l.at_30 ≡ waiting t = omega (arith, all, inside) in
    rw (
      census_counted t c.requires,
      w,
      inside,
      c.figures_in.ensures ∙ ap (figures_in (length t)) b ∙ below-figures t,
      c.figures_in-2.ensures ∙ ap (figures_in (length t)) h ∙ held-figures t,
    ) refl
