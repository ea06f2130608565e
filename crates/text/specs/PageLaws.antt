-- A page keeps the laws of a place for bytes. Assumes nothing.
use Rattle.std.specs.Prelude.{ℕ, ◌+◌, ◌≡◌, List, ◌++◌, length, refl}
use Rattle.std.proofs.Common.{sym, ap, ◌∙◌, arith, length-append, add-zero}
use Rattle.counting.specs.Placing.{placed}
use Rattle.counting.proofs.PlacingLaws.{placed_none, placed_then, length-placed}
use Rattle.text.specs.Laws.{SinkLaws}
use Rattle.text.specs.Pages.{page_space, Written}
use Rattle.text.specs.declared.sinks.Page.{Page}

pub written_length : {p q : Page} {s : List ℕ} → Written p s q → length q.bytes.now ≡ length p.bytes.now
written_length {p = p} {s = s} a =
    let inside = p.within in ap length a.bytes_are ∙ length-placed p.bytes.now p.filled s (omega (arith, a.room))

written_takes_room : {p q : Page} {s : List ℕ} → Written p s q → page_space p ≡ page_space q + length s
written_takes_room {p = p} {q = q} a =
    let inside = p.within in omega (arith, a.filled_is, a.room, written_length a)

written_joined : {p q r : Page} {s u : List ℕ} → Written p s q → Written q u r → Written p (s ++ u) r
written_joined {p = p} {q = q} {s = s} {u = u} a b =
    record {
      same_buffer = b.same_buffer ∙ a.same_buffer;
      bytes_are =
          b.bytes_are
          ∙ ap (λ (l : List ℕ). placed l q.filled u) a.bytes_are
          ∙ ap (λ (k : ℕ). placed (placed p.bytes.now p.filled s) k u) a.filled_is
          ∙ placed_then p.bytes.now p.filled s u p.within;
      filled_is = omega (arith, a.filled_is, b.filled_is, length-append s u);
      room = omega (arith, b.room, written_takes_room a, length-append s u);
    }

pub page_laws : SinkLaws page_space Written
page_laws = record {
  none = λ p. record {
    same_buffer = refl;
    bytes_are = sym (placed_none p.bytes.now p.filled);
    filled_is = sym (add-zero p.filled);
    room = omega arith;
  };
  joined = written_joined;
  takes_room = written_takes_room;
}
