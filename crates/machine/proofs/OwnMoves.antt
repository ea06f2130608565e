-- In an unbroken round each process makes one move of its own, and no other move touches its row, but for turn, ahead
-- and passes.
--
--   OwnMove t q w   <=>  a move of q leads from a table with the row of q in t to one with that of q in w.
--   own_move             so it is in an unbroken round
--
-- Assumes nothing.
use Prim.Native.Nat.{ℕ, suc, ◌≤◌, ◌<◌}
use mathlib.Core.Path.{◌≡◌, sym, subst}
use native.Mathlib.Decide.{ℕ_discrete}
use native.Mathlib.Omega.{arith}
use lib.ListN.{length}
use Rattle.machine.specs.Tables.{Table, row, table_refusal}
use Rattle.machine.specs.Steps.{refusal_of}
use Rattle.machine.specs.Rounds.{round_word, round, Unbroken}
use Rattle.machine.proofs.Frames.{Untouched, untouched, untouched_twice, step_others}
use Rattle.machine.proofs.RoundLaws.{Move, move_step, by_moves}

pub record OwnMove (t : Table) (q : ℕ) (w : Table) : Type 0 where
  pub before : Table
  pub after : Table
  pub same_size : length before ≡ length t
  pub sound_before : table_refusal before ≡ 0
  pub accepted_before : refusal_of before (round_word before q) ≡ 0
  pub moves : Move before q after
  pub as_before : Untouched (row t q) (row before q)
  pub as_after : Untouched (row after q) (row w q)

module _ (t : Table) (q : ℕ) where
  -- after the moves of the processes below p: q made its move in its turn, or is still as it was
  record Turns (p : ℕ) (v : Table) : Type 0 where
    made : q < p → OwnMove t q v
    still : p ≤ q → Untouched (row t q) (row v q)

  turns : (p : ℕ) (v u : Table)
      → length v ≡ length t
      → table_refusal v ≡ 0
      → refusal_of v (round_word v p) ≡ 0
      → Move v p u
      → Turns p v
      → Turns (suc p) u
  turns p v u n z ok m h = go (ℕ_discrete p q)
    where
      go : Dec (p ≡ q) → Turns (suc p) u
      go (yes e) =
          record {
            made = λ l.
                record {
                  before = v;
                  after = u;
                  same_size = n;
                  sound_before = z;
                  accepted_before = subst (λ (x : ℕ). refusal_of v (round_word v x) ≡ 0) e ok;
                  moves = subst (λ (x : ℕ). Move v x u) e m;
                  as_before = h.still (omega arith);
                  as_after = untouched (row u q);
                };
            still = λ l. absurd (omega arith);
          }
      go (no ne) =
          let o = step_others v u p q (move_step m) (λ e. ne (sym e)) in
          record {
            made = λ l.
                let b = h.made (omega (arith, ne)) in
                record {
                  before = b.before;
                  after = b.after;
                  same_size = b.same_size;
                  sound_before = b.sound_before;
                  accepted_before = b.accepted_before;
                  moves = b.moves;
                  as_before = b.as_before;
                  as_after = untouched_twice b.as_after o;
                };
            still = λ l. untouched_twice (h.still (omega arith)) o;
          }

  pub own_move : table_refusal t ≡ 0 → Unbroken t → q < length t → OwnMove t q (round t)
  own_move z whole l =
      (by_moves t Turns z whole (λ p v u k n y after ok m. turns p v u n y ok m)
      (record { made = λ k. absurd (omega arith); still = λ k. untouched (row t q) })
      ).made l
