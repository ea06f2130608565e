-- Bytes that are counted and not kept.
--
--   count_space p  ==   how many more bytes can be counted.
--   Counted p s q  <=>  the count p has become q by the bytes s.
--
-- Assumes nothing.
use Rattle.std.specs.Prelude.{ℕ, ◌+◌, ◌-◌, ◌^◌, ◌≤◌, ◌≡◌, List, ◌++◌, length}
use Rattle.std.proofs.Common.{arith, length-append}
use Rattle.text.specs.Laws.{SinkLaws}
use Rattle.text.specs.declared.sinks.Count.{Count}

abbrev pub count_space : Count → ℕ
count_space p = 2 ^ 64 - 1 - p.bytes

pub record Counted (p : Count) (s : List ℕ) (q : Count) : Type 0 where
  pub count_is : q.bytes ≡ p.bytes + length s
  pub room : length s ≤ count_space p

counted_joined : {p q r : Count} {s u : List ℕ} → Counted p s q → Counted q u r → Counted p (s ++ u) r
counted_joined {s = s} {u = u} a b =
    record {
      count_is = omega (arith, a.count_is, b.count_is, length-append s u);
      room = omega (arith, a.room, b.room, a.count_is, length-append s u);
    }

pub count_laws : SinkLaws count_space Counted
count_laws = record {
  none = λ p. record { count_is = omega arith; room = omega arith };
  joined = counted_joined;
  takes_room = λ {p}. λ {q}. λ {s}. λ a. omega (arith, a.room, a.count_is);
}
