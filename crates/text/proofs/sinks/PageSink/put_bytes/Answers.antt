-- Bytes put on a page. Assumes nothing.
use Rattle.std.proofs.Common.{◌≡◌, ◌∙◌, ℕ, ◌+◌, ◌-◌, List, ◌++◌, length, take, drop, refl, ap, arith}
use lib.Seq.{drop-drop}
use borrow.Rule.Slice.PartMut.{put_mid}
use Rattle.counting.specs.Placing.{placed}
use Rattle.text.proofs.sinks.PageSink.put_bytes.Goals as goal

-- the middle of a slice, written whole
placed_mid : (d s : List ℕ) (at k : ℕ) → k ≡ length s → put_mid at k d s ≡ placed d at s
unfolding placed
placed_mid d s at k e =
    ap (λ (l : List ℕ). take at d ++ (s ++ l))
    (drop-drop k at d ∙ ap (λ (n : ℕ). drop n d) {x = at + k} {y = at + length s} (omega arith))

pub returns : goal.returns
returns c =
    let p = c.args.self in
    let s = c.args.s.now in
    let put = c.copy_from_slice.ensures.after in
    record {
      same_buffer = refl;
      bytes_are =
          ap (put_mid p.filled (p.filled + length s - p.filled) p.bytes.now) put
          ∙ placed_mid p.bytes.now s p.filled _ (omega arith);
      filled_is = refl;
      room = c.requires;
    }
