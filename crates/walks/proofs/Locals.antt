-- The locals of a function in a walk by hand. Their types are a list ts, what they hold is a list ss, and local k has
-- the address `ls k`.
--
--   Slot              what a local holds: nothing (`spare`), a value (`full`), or what stands elsewhere in the context
--                     (`apart`).
--   types_of           the types of a function's locals. A long walk writes them out, since reading them off the
--                     function is slow.
--   env ts ls         the locals, as the program logic has them.
--   held ts ls ss Γ   the context of the locals, the last one first, and then Γ. A local past the end of ss holds
--                     nothing.
--   rooms ts ls ss Γ  the memory of the locals that are apart, in order, and then Γ.
--   no, has           local k of such a context, written out. A walk writes its contexts so: `held` is slow there.
--   begins            a function's locals are allocated, and hold nothing.
--   leaves            they are given up with whatever they hold, those that are apart by their memory. The item before
--                     them stays.
--
-- Assumes `Logic`.
use mathlib.Core.Path.{refl}
use Prim.Native.Nat.{ℕ, zero, suc}
use mathlib.Core.List.{List, [], ◌∷◌}
use lib.ListN.{get_or}
use seplogic.Ra.Ura.{Ura}
use base.Fraction.{full_share}
use mir.Syntax.{Ty, Local, local, ty_unit}
use mir.Val.{Val}
use base.Logic.{ent, sep, via, mono_r, id⊢}
use base.Fml.{fat, froom, fdies}
use prog.Wp.{Env}
use types.Logic.{Logic}
use types.Kit.{Item, Goal, Seq, Step, step, allocs, frees, ‵, ⋆, mean, pop, push, ◌$◌, ◌∵◌, !, qed, by, move}
use types.Run.{forget, alloc1, alloc0, free1, free0}

pub data Slot : Type 0 where
  spare : Slot
  full : Val → Slot
  apart : Slot

-- ---- types and addresses

abbrev pub types_of : List Local → List Ty
types_of [] = []
types_of (local τ h ∷ vs) = τ ∷ types_of vs

abbrev cons : ℕ → (ℕ → ℕ) → ℕ → ℕ
cons l ls zero = l
cons l ls (suc k) = ls k

abbrev rest : (ℕ → ℕ) → ℕ → ℕ
rest ls k = ls (suc k)

abbrev pub env : List Ty → (ℕ → ℕ) → List (Ty × ℕ)
env [] ls = []
env (τ ∷ ts) ls = (τ, ls 0) ∷ env ts (rest ls)

-- ---- contexts

abbrev head : List Slot → Slot
head [] = spare
head (s ∷ ss) = s

abbrev tail : List Slot → List Slot
tail [] = []
tail (s ∷ ss) = ss

module _ {M : Type 1} {𝓤 : Ura M} where
  abbrev items : Ty → ℕ → Slot → List (Item 𝓤) → List (Item 𝓤)
  items τ l spare Γ = ‵ (froom τ l 0) ∷ ‵ (fdies τ l) ∷ Γ
  items τ l (full v) Γ = ‵ (fat full_share τ l 0 v) ∷ ‵ (fdies τ l) ∷ Γ
  items τ l apart Γ = Γ

  abbrev room : Ty → ℕ → Slot → List (Item 𝓤) → List (Item 𝓤)
  room τ l spare Γ = Γ
  room τ l (full v) Γ = Γ
  room τ l apart Γ = ‵ (froom τ l 0) ∷ ‵ (fdies τ l) ∷ Γ

  abbrev pub held : List Ty → (ℕ → ℕ) → List Slot → List (Item 𝓤) → List (Item 𝓤)
  held [] ls ss Γ = Γ
  held (τ ∷ ts) ls ss Γ = held ts (rest ls) (tail ss) (items τ (ls 0) (head ss) Γ)

  abbrev pub rooms : List Ty → (ℕ → ℕ) → List Slot → List (Item 𝓤) → List (Item 𝓤)
  rooms [] ls ss Γ = Γ
  rooms (τ ∷ ts) ls ss Γ = room τ (ls 0) (head ss) (rooms ts (rest ls) (tail ss) Γ)

-- local k, of a context that is written out

module _ {M : Type 1} {𝓤 : Ura M} (ts : List Ty) (ls : ℕ → ℕ) where
  abbrev pub no : ℕ → List (Item 𝓤) → List (Item 𝓤)
  no k Γ = ‵ (froom (get_or ts k ty_unit) (ls k) 0) ∷ ‵ (fdies (get_or ts k ty_unit) (ls k)) ∷ Γ

  abbrev pub has : ℕ → Val → List (Item 𝓤) → List (Item 𝓤)
  has k v Γ = ‵ (fat full_share (get_or ts k ty_unit) (ls k) 0 v) ∷ ‵ (fdies (get_or ts k ty_unit) (ls k)) ∷ Γ

-- ---- an item that stands behind locals, before them

module _ {M : Type 1} {𝓤 : Ura M} (𝓛 : Logic 𝓤) where
  abbrev ◌⊢◌ : List (Item 𝓤) → List (Item 𝓤) → Type 1
  Γ ⊢ Δ = ent 𝓤 (⋆ 𝓛 Γ) (⋆ 𝓛 Δ)

  infix 20 ◌⊢◌
  under : (i : Item 𝓤) (Γ Δ : List (Item 𝓤)) → Γ ⊢ Δ → (i ∷ Γ) ⊢ (i ∷ Δ)
  under i Γ Δ h =
      via 𝓤 (sep 𝓤 (mean 𝓛 i) (⋆ 𝓛 Γ)) (pop 𝓛 i Γ)
      (via 𝓤 (sep 𝓤 (mean 𝓛 i) (⋆ 𝓛 Δ)) (mono_r 𝓤 (mean 𝓛 i) h) (push 𝓛 i Δ))

  under_two : (i j : Item 𝓤) (Γ Δ : List (Item 𝓤)) → Γ ⊢ Δ → (i ∷ j ∷ Γ) ⊢ (i ∷ j ∷ Δ)
  under_two i j Γ Δ h = under i (j ∷ Γ) (j ∷ Δ) (under j Γ Δ h)

  past_two : (i j k : Item 𝓤) (Γ : List (Item 𝓤)) → (i ∷ j ∷ k ∷ Γ) ⊢ (k ∷ i ∷ j ∷ Γ)
  past_two i j k Γ = qed 𝓛 (i ∷ j ∷ k ∷ Γ) ∵ move ! (2 ∷ []) $ by ! (id⊢ 𝓤 _)

  -- past the items of one local
  items_mono : (τ : Ty) (l : ℕ) (s : Slot) (Γ Δ : List (Item 𝓤)) → Γ ⊢ Δ → items τ l s Γ ⊢ items τ l s Δ
  items_mono τ l spare Γ Δ h = under_two (‵ (froom τ l 0)) (‵ (fdies τ l)) Γ Δ h
  items_mono τ l (full v) Γ Δ h = under_two (‵ (fat full_share τ l 0 v)) (‵ (fdies τ l)) Γ Δ h
  items_mono τ l apart Γ Δ h = h

  past_items : (τ : Ty) (l : ℕ) (s : Slot) (i : Item 𝓤) (Γ : List (Item 𝓤))
      → items τ l s (i ∷ Γ) ⊢ (i ∷ items τ l s Γ)
  past_items τ l spare i Γ = past_two (‵ (froom τ l 0)) (‵ (fdies τ l)) i Γ
  past_items τ l (full v) i Γ = past_two (‵ (fat full_share τ l 0 v)) (‵ (fdies τ l)) i Γ
  past_items τ l apart i Γ = id⊢ 𝓤 _

  past_room : (τ : Ty) (l : ℕ) (s : Slot) (i : Item 𝓤) (Γ Δ : List (Item 𝓤)) → Γ ⊢ (i ∷ Δ)
      → room τ l s Γ ⊢ (i ∷ room τ l s Δ)
  past_room τ l spare i Γ Δ h = h
  past_room τ l (full v) i Γ Δ h = h
  past_room τ l apart i Γ Δ h =
      via 𝓤 _ (under_two (‵ (froom τ l 0)) (‵ (fdies τ l)) Γ (i ∷ Δ) h) (past_two (‵ (froom τ l 0)) (‵ (fdies τ l)) i Δ)

  -- past those of all
  held_mono : (ts : List Ty) (ls : ℕ → ℕ) (ss : List Slot) (Γ Δ : List (Item 𝓤)) → Γ ⊢ Δ
      → held ts ls ss Γ ⊢ held ts ls ss Δ
  held_mono [] ls ss Γ Δ h = h
  held_mono (τ ∷ ts) ls ss Γ Δ h =
      held_mono ts (rest ls) (tail ss) (items τ (ls 0) (head ss) Γ) (items τ (ls 0) (head ss) Δ)
      (items_mono τ (ls 0) (head ss) Γ Δ h)

  past-held : (ts : List Ty) (ls : ℕ → ℕ) (ss : List Slot) (i : Item 𝓤) (Γ : List (Item 𝓤))
      → held ts ls ss (i ∷ Γ) ⊢ (i ∷ held ts ls ss Γ)
  past-held [] ls ss i Γ = id⊢ 𝓤 _
  past-held (τ ∷ ts) ls ss i Γ =
      via 𝓤 _ (held_mono ts (rest ls) (tail ss) (items τ (ls 0) (head ss) (i ∷ Γ)) (i ∷ items τ (ls 0) (head ss) Γ)
      (past_items τ (ls 0) (head ss) i Γ))
      (past-held ts (rest ls) (tail ss) i (items τ (ls 0) (head ss) Γ))

  past_rooms : (ts : List Ty) (ls : ℕ → ℕ) (ss : List Slot) (i : Item 𝓤) (Γ Δ : List (Item 𝓤)) → Γ ⊢ (i ∷ Δ)
      → rooms ts ls ss Γ ⊢ (i ∷ rooms ts ls ss Δ)
  past_rooms [] ls ss i Γ Δ h = h
  past_rooms (τ ∷ ts) ls ss i Γ Δ h =
      past_room τ (ls 0) (head ss) i (rooms ts (rest ls) (tail ss) Γ) (rooms ts (rest ls) (tail ss) Δ)
      (past_rooms ts (rest ls) (tail ss) i Γ Δ h)

-- ---- the start and the end of a function

module _ {M : Type 1} {𝓤 : Ura M} {𝓛 : Logic 𝓤} {K : Type 0} where
  open 𝓛 use {H}

  pub begins : K → (vs : List Local) {Γ : List (Item 𝓤)} {Kt : Env 𝓤 H → Goal 𝓤 H}
      → ((ls : ℕ → ℕ) → Seq K 𝓛 (held (types_of vs) ls [] Γ) (Kt (env (types_of vs) ls))) → Seq K 𝓛 Γ (allocs vs Kt)
  begins t [] next = alloc0 t $ next (λ _. 0)
  begins t (local τ h ∷ vs) {Kt = Kt} next =
      alloc1 t (λ l. begins t vs {Kt = λ E. Kt ((τ, l) ∷ E)} (λ ls. next (cons l ls)))

  -- two items behind locals, and one before them: the two come first
  brings : (ts : List Ty) (ls : ℕ → ℕ) (ss : List Slot) (i j k : Item 𝓤) (Γ : List (Item 𝓤)) {G : Goal 𝓤 H}
      → Seq K 𝓛 (i ∷ j ∷ k ∷ rooms ts ls ss (held ts ls ss Γ)) G
      → Seq K 𝓛 (k ∷ rooms ts ls ss (held ts ls ss (i ∷ j ∷ Γ))) G
  brings ts ls ss i j k Γ {G} s =
      let two = rooms ts ls ss (held ts ls ss (i ∷ j ∷ Γ)) in
      let one = rooms ts ls ss (held ts ls ss (j ∷ Γ)) in
      let none = rooms ts ls ss (held ts ls ss Γ) in
      record {
        prf =
            via 𝓤 _ (under 𝓛 k two (i ∷ one)
            (past_rooms 𝓛 ts ls ss i (held ts ls ss (i ∷ j ∷ Γ)) (held ts ls ss (j ∷ Γ))
            (past-held 𝓛 ts ls ss i (j ∷ Γ))))
            (via 𝓤 _ (under_two 𝓛 k i one (j ∷ none)
            (past_rooms 𝓛 ts ls ss j (held ts ls ss (j ∷ Γ)) (held ts ls ss Γ) (past-held 𝓛 ts ls ss j Γ)))
            (qed 𝓛 (k ∷ i ∷ j ∷ none) ∵ move ! (1 ∷ 2 ∷ []) $ by ! s.prf));
      }

  pub leaves : K → (ts : List Ty) (ls : ℕ → ℕ) (ss : List Slot) {k : Item 𝓤} {Γ : List (Item 𝓤)} {G : Goal 𝓤 H}
      → Step K 𝓛 (k ∷ Γ) G (k ∷ rooms ts ls ss (held ts ls ss Γ)) (frees (env ts ls) G)
  leaves t [] ls ss = free0 t
  leaves t (τ ∷ ts) ls ss {k} {Γ} {G} =
      step (λ s. leave (head ss) (leaves t ts (rest ls) (tail ss) $ s))
    where
      none : List (Item 𝓤) → List (Item 𝓤)
      none Δ = rooms ts (rest ls) (tail ss) (held ts (rest ls) (tail ss) Δ)

      -- the first of them
      leave : (s : Slot) → Seq K 𝓛 (k ∷ none Γ) (frees (env ts (rest ls)) G)
          → Seq K 𝓛 (k ∷ room τ (ls 0) s (none (items τ (ls 0) s Γ))) (frees ((τ, ls 0) ∷ env ts (rest ls)) G)
      leave spare next = brings ts (rest ls) (tail ss) (‵ (froom τ (ls 0) 0)) (‵ (fdies τ (ls 0))) k Γ (free1 t $ next)
      leave (full v) next =
          brings ts (rest ls) (tail ss) (‵ (fat full_share τ (ls 0) 0 v)) (‵ (fdies τ (ls 0))) k Γ
          (forget t 0 refl $ free1 t $ next)
      leave apart next = move t (1 ∷ 2 ∷ []) $ free1 t $ next
