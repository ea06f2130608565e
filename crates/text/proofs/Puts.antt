-- What the laws of a place for bytes give: the same bytes by another name, and two texts as one. Assumes nothing.
use Rattle.std.proofs.Common.{◌≡◌, ℕ, List, ◌++◌, subst}
use Rattle.text.specs.Laws.{SinkLaws}

module _ {S : Type 0} {space : S → ℕ} {appended : S → List ℕ → S → Type 0} (laws : SinkLaws space appended) where
  pub put_as : {p q : S} {s u : List ℕ} → s ≡ u → appended p s q → appended p u q
  put_as {p = p} {q = q} same a = subst (λ (l : List ℕ). appended p l q) same a

  pub put_both : {p q r : S} {s u v : List ℕ} → s ++ u ≡ v → appended p s q → appended q u r → appended p v r
  put_both same a b = put_as same (laws.joined a b)
