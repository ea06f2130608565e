-- The longest silence: after COME of every process of a fresh table, as many rounds as the bound has.
--
--   come_silent, come_pending    nobody is at 30, and somebody is pending
--   come_unbroken                no word of the first round is refused
--   come_first                   some process is at 30 after `silence_bound` rounds, and after fewer nobody is
--
-- Assumes nothing.
use Prim.Native.Nat.{ℕ, suc, ◌-◌, ◌≤◌, ◌<◌}
use mathlib.Core.Path.{◌≡◌, sym, ap, ◌∙◌, subst}
use mathlib.Core.Bool.{true, ◌&&◌}
use native.Mathlib.Omega.{arith}
use lib.Dec.{leb}
use lib.ListN.{length}
use borrow.Author.Tests.{ne_eqb}
use Rattle.counting.proofs.CountLaws.{count_none, count_pos}
use Rattle.machine.specs.Tables.{Table, row, table_refusal, fresh}
use Rattle.machine.specs.Steps.{after_words}
use Rattle.machine.specs.Census.{is_critical, critical}
use Rattle.machine.specs.Rounds.{round, Unbroken, is_pending, pending, silence_bound, all_coming}
use Rattle.machine.proofs.SoundRows.{sound_rows, sound-accepted}
use Rattle.machine.proofs.Soundness.{words_keep_sound, words_keep_length}
use Rattle.machine.proofs.FreshRows.{fresh-sound}
use Rattle.silence.proofs.PhaseLaws.{bound_is}
use Rattle.silence.proofs.AllCome.{all_come, came_unbroken, front_begins}
use Rattle.silence.proofs.FrontEnds.{First, first_later, front_arrives}

module _ (t : Table) (h : fresh t ≡ true) where
  abbrev come : Table
  come = after_words t (all_coming (length t))

  same_size : length come ≡ length t
  same_size = words_keep_length t (all_coming (length t))

  come_sound : table_refusal come ≡ 0
  come_sound = words_keep_sound t (all_coming (length t)) (sound-accepted t (fresh-sound t h))

  at_20 : (q : ℕ) → q < length come → (row come q).location ≡ 20
  at_20 q l = (all_come t h q (omega (arith, same_size))).0

  pub come_silent : critical come ≡ 0
  come_silent =
      count_none (λ q. is_critical (row come q)) (length come)
      (λ q l. ne_eqb (row come q).location 30 (λ i. omega (arith, at_20 q l, i)))

  pub come_pending : 1 ≤ pending come
  come_pending =
      let first : 0 < length come = omega (arith, (sound_rows come come_sound).0) in
      count_pos (λ q. is_pending (row come q)) (length come) 0 first
      (ap (λ (v : ℕ). leb 20 v && leb v 24) (at_20 0 first))

  pub come_unbroken : Unbroken come
  come_unbroken = came_unbroken come come_sound (λ q l. all_come t h q (omega (arith, same_size)))

  pub come_first : First (silence_bound (length t)) come
  come_first =
      let k : ℕ = length t - 1 in
      let e : length t ≡ suc k = omega (arith, same_size, (sound_rows come come_sound).0) in
      let begins = front_begins k come come_sound (same_size ∙ e) (λ q l. all_come t h q (omega arith)) in
      subst (λ (x : ℕ). First x come) (bound_is k ∙ ap silence_bound (sym e))
      (first_later _ come come_silent (front_arrives (suc k) k (round come) begins))
