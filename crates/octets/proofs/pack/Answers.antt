-- `octets::pack` meets its contract. The invariant of its loop: the bytes of the first i words stand at the start.
-- Assumes nothing.
use native.Mathlib.Omega.{arith}
use native.Mathlib.Numerals.{add-one}
use mathlib.Core.Path.{◌≡◌, sym, ap, ◌∙◌}
use mathlib.Core.List.{List, [], ◌∷◌, ◌++◌}
use Prim.Native.Nat.{ℕ, ◌+◌, ◌-◌, ◌*◌, ◌<◌}
use lib.ListN.{length, get_or, take, drop}
use lib.Seq.{take-suc, take-length, length-take-le, drop-drop}
use borrow.Rule.Slice.PartMut.{put_mid}
use Rattle.machine.specs.Bytes.{bytes_of}
use Rattle.counting.specs.Placing.{placed}
use Rattle.counting.proofs.PlacingLaws.{placed_none, placed_then}
use Rattle.octets.proofs.ByteLaws.{bytes_of_append, length_bytes_of}
use Rattle.octets.proofs.pack.Invariants.{after}
use Rattle.octets.proofs.pack.Goals as goal

-- a part written over with as many bytes as it has
over : (at k : ℕ) (d s : List ℕ) → length s ≡ k → put_mid at k d s ≡ placed d at s
unfolding placed
over at k d s e =
    ap (λ (l : List ℕ). take at d ++ (s ++ l)) (drop-drop k at d ∙ ap (λ (n : ℕ). drop (at + n) d) (sym e))

-- the next word
next : (words bytes : List ℕ) (i : ℕ) → i < length words
    → put_mid (4 * i) (4 * i + 4 - 4 * i) (after words bytes i) (bytes_of (get_or words i 0 ∷ []))
    ≡ after words bytes (i + 1)
unfolding bytes_of
next words bytes i h =
    let s = bytes_of (take i words) in
    let w = bytes_of (get_or words i 0 ∷ []) in
    let e : 4 * i ≡ 0 + length s =
    omega (arith, length_bytes_of (take i words), length-take-le i words (omega arith)) in
    let joined = sym (bytes_of_append (take i words) (get_or words i 0 ∷ [])) in
    over (4 * i) (4 * i + 4 - 4 * i) (after words bytes i) w (omega arith)
    ∙ ap (λ (k : ℕ). placed (placed bytes 0 s) k w) e
    ∙ placed_then bytes 0 s w (omega arith)
    ∙ ap (placed bytes 0) (joined ∙ ap bytes_of (sym (take-suc words i 0 h)))
    ∙ ap (after words bytes) (sym (add-one i))

pub loop-i-init : goal.loop-i-init
unfolding bytes_of
loop-i-init c = sym (placed_none c.args.bytes.now 0)

pub loop-i-preserved : goal.loop-i-preserved
unfolding bytes_of
loop-i-preserved c =
    rw (c.copy_from_slice.ensures.after, c.to_le_bytes.ensures, c.loop-i.invariant)
    (next c.args.words.now c.args.bytes.now c.loop-i.i (omega arith))

pub returns : goal.returns
returns c =
    let a = c.args in
    let l = c.loop-i in
    let past : l.i ≡ length a.words.now = omega arith in
    l.invariant ∙ ap (after a.words.now a.bytes.now) past
    ∙ ap (λ (ws : List ℕ). placed a.bytes.now 0 (bytes_of ws)) (take-length a.words.now)
