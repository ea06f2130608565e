-- The first m words of an input are its image, the others its event words. Assumes nothing.
use mathlib.Core.Path.{◌≡◌, sym, ap, ◌∙◌}
use mathlib.Core.List.{List}
use Prim.Native.Nat.{ℕ, ◌≤◌, min}
use native.Mathlib.Decide.{dec_le}
use native.Mathlib.Omega.{arith}
use lib.ListN.{length, get_or, take, drop, drop_of_length-le}
use lib.Seq.{take_all, length-take-le}
use Rattle.machine.specs.Images.{length_in}
use Rattle.machine.specs.Inputs.{image_part}
use Rattle.inputs.specs.Splitting.{Splits}

module _ (ws : List ℕ) where
  abbrev all : ℕ
  all = length_in (get_or ws 0 0)

  -- as many as the first word says
  pub splits_at : (m : ℕ) → m ≡ all → m ≤ length ws → Splits ws m
  splits_at m e h =
      record {
        within = h;
        image_is = ap (λ (k : ℕ). take k ws) e;
        events_are = ap (λ (k : ℕ). drop k ws) e;
      }

  -- or every word
  pub splits_over : (m : ℕ) → m ≡ length ws → length ws ≤ all → Splits ws m
  splits_over m e h =
      record {
        within = omega arith;
        image_is = take_all m ws (omega arith) ∙ sym (take_all all ws h);
        events_are = drop_of_length-le ws {i = m} (omega arith) ∙ sym (drop_of_length-le ws h);
      }

  -- the lesser of both
  pub splits_min : (m : ℕ) → m ≡ min all (length ws) → Splits ws m
  splits_min m e =
      elim (dec_le all (length ws)) [
        | yes h ↦ splits_at m (omega arith) (omega arith)
        | no h ↦ splits_over m (omega arith) (omega arith)
      ]

-- how many words the image has
pub split_count : (ws : List ℕ) (m : ℕ) → Splits ws m → m ≡ length (image_part ws)
split_count ws m s = sym (length-take-le m ws s.within) ∙ ap length s.image_is
