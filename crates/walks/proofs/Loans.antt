-- Elements of a type T that lie side by side in memory, those of a local array `[T; n]` or of a slice whose borrow is
-- open. They are lent for a call, and come back, as often as wanted; between loans they are one item.
--
--   Elements R mach        the laws of a type R of plain data with the machine values mach.
--   rep_is                 the value `[v; n]` is n times what v is.
--   Stored xs              the n elements xs, in memory at (b, o).
--   stored_in, stored_out  they are the elements of a local array that was written whole, or is given up.
--   lends_mut, mut_back    they are lent as `&mut [T]`, and are the slice's last list afterwards.
--   lends_shr, shr_back    they are lent as `&[T]`, and are as they were afterwards.
--   Opened                 what the holder of a `&mut [T]` has beside its elements while its borrow is open.
--   opens, closes          the borrow is opened, and closed with other elements, as many.
--
-- Assumes `Logic`.
use mathlib.Core.Path.{◌≡◌, refl, sym, ap, subst}
use Prim.Native.Nat.{ℕ, zero, suc}
use mathlib.Core.List.{List, [], ◌∷◌}
use lib.Dec.{T}
use lib.ListN.{length, replicate, length-replicate}
use seplogic.Ra.Ura.{Ura}
use base.Fraction.{full_share}
use mir.Syntax.{Ty, Lifetime, ty_array}
use mir.Val.{Val, has_ty, WT}
use base.Logic.{SProp, ent, sep, ex}
use base.Fml.{Lft, Share, GName, Fml, fsep, fat, froom, flft, flent, fobs, fauth, fobor, fhide}
use types.Logic.{Logic, sem}
use types.Kit.{Item, Goal, Soaks, Seq, Go, ‵, ◌⊛◌, some, later, ◌$◌, ◌∵◌, !, qed, by, move, use1, use3}
use types.Kit.{rewrite, drop, split, pick, fsplit, fjoin, fpick, fpack, feq_l, feq_i, await, updating, done}
use types.Kit.{now as at_once}
use types.Tokens.{lft_new, lft_end, lent_back}
use types.SemTy.{cells, Arr}
use types.Share.{PartsLaws, parts as elements, arr_parts, arr_laws}
use denote.RattleType.{RattleType}
use denote.Shadow.{shadow, pure_i}
use denote.Laws.{Is, Tells, Makes, Copy, shows}
use denote.Copied.{Copied, each_lends}
use denote.Memory.{lone, cell_at, part_at, part_of, mem, shares, share_laws}
use denote.Array.{Array, each, array_val, Array-Makes}
use denote.ArrayMemory.{Single, Array-apart, Array-whole}
use denote.Bor.{Bor}
use denote.MutBor.{MutBor}
use denote.Slice.{slice_val, MutSlice, ShrSlice, Room, finally, heres, coded_holeys}
use denote.Slice.{mut_slice_at, shr_slice_at, elements_shared}
use denote.Lend.{Held, lends_slice, slice_back}
use denote.Lends.{Lent-map}
use denote.Index.{opens_slice, closes_slice}
use denote.Steps.{owned, facts}

pub record Elements {M : Type 1} {𝓤 : Ura M} (𝓛 : Logic 𝓤) (R : RattleType) (mach : R.Denot → Val)
    : Type 2 where
  pub single : Single R.mir
  pub tells : Tells R (Is R) (λ x. mach x ∷ [])
  pub makes : Makes 𝓛 R (Is R)
  pub copies : Copy 𝓛 R
  pub copied : Copied 𝓛 R
  pub typed : (x : R.Denot) (v : Val) → Is R x (v ∷ []) → T (has_ty (lone R.mir) v) × WT v

module _ (R : RattleType) (x : R.Denot) (u : Val) (is : Is R x (u ∷ [])) where
  each_rep : (n : ℕ) → shadow (each R.Denot R.own_val (replicate n x) (replicate n u))
  each_rep zero = tt
  each_rep (suc n) = (is, each_rep n)

  pub rep_is : (n : ℕ) → Is (Array R n) (replicate n x) (array_val (replicate n u) ∷ [])
  rep_is n = (replicate n u, ((refl, length-replicate n x), each_rep n))

-- ---- the elements, and their slices

module _ (R : RattleType) (n b o : ℕ) where
  abbrev pub Stored : List R.Denot → Fml
  Stored xs = (arr_parts (shares R) n).part full_share xs b o

  abbrev pub slice_ref : GName → List R.Denot → MutBor (List R.Denot)
  slice_ref γ xs = record { ref_ptr = (b, o); ghost_name = γ; now = xs }

  abbrev pub Mut : Lifetime → Lft → GName → List R.Denot → Fml
  Mut ℓ κ γ xs = (MutSlice ℓ κ R).own_val (slice_ref γ xs) (slice_val (b, o) n ∷ [])

  abbrev pub shared_ref : List R.Denot → Bor (List R.Denot)
  shared_ref xs = record { ref_ptr = (b, o); now = xs }

  abbrev pub Shr : Lifetime → Lft → List R.Denot → Fml
  Shr ℓ κ xs = (ShrSlice ℓ κ R).own_val (shared_ref xs) (slice_val (b, o) n ∷ [])

-- ---- loans

module _ {M : Type 1} {𝓤 : Ura M} (𝓛 : Logic 𝓤) (R : RattleType) (n b o : ℕ)
    (mach : R.Denot → Val) (laws : Elements 𝓛 R mach) where
  open 𝓛 use {H, A}

  abbrev ⟦◌⟧ : Fml → SProp 𝓤
  ⟦ P ⟧ = sem 𝓛 P

  abbrev ty : Ty
  ty = ty_array (lone R.mir) n

  abbrev parts : PartsLaws 𝓛 (Arr (mem R) n) (arr_parts (shares R) n)
  parts =
      arr_laws 𝓛 (mem R) (shares R)
      (share_laws 𝓛 R (Is R) (shows 𝓛 R) (λ x. mach x ∷ []) laws.tells laws.copies) n

  -- a local array

  pub stored_in : (xs : List R.Denot) (v : Val) → Is (Array R n) xs (v ∷ [])
      → ent 𝓤 (H.at full_share ty b o v) ⟦ Stored R n b o xs ⟧
  unfolding part_of
  stored_in xs v is =
      qed 𝓛 (‵ (fat full_share ty b o v) ∷ []) ∵
      use1 𝓛 (‵ (cell_at full_share (Array R n).mir (v ∷ []) b o)) (𝓛.laws.at_raw full_share ty b o v) $
      owned ! (Array R n) (Is (Array R n)) (Array-Makes 𝓛 R laws.makes n) xs (v ∷ []) is $
      move ! (1 ∷ 0 ∷ []) $ fjoin ! $
      fpack ! (List Val) (λ vs. fsep (cell_at full_share (Array R n).mir vs b o) ((Array R n).own_val xs vs)) (v ∷ []) $
      use1 𝓛 (‵ (Stored R n b o xs)) (Array-apart 𝓛 R full_share laws.single n xs b o) $ done !

  pub stored_out : (xs : List R.Denot) → ent 𝓤 ⟦ Stored R n b o xs ⟧ (H.room ty b o)
  unfolding part_of
  stored_out xs =
      qed 𝓛 (‵ (Stored R n b o xs) ∷ []) ∵
      use1 𝓛 (‵ (part_at (Array R n) full_share xs b o)) (Array-whole 𝓛 R full_share n xs b o) $
      fpick ! (λ vs. fsplit ! $ move ! (1 ∷ []) $
      facts ! (Array R n) (Is (Array R n)) (shows 𝓛 (Array R n)) xs vs (λ is.
      rewrite ! 0 (λ (us : List Val). ‵ (cell_at full_share (Array R n).mir us b o)) is.1.0.0 refl $
      use1 𝓛 (‵ (fat full_share ty b o (array_val is.0))) (𝓛.laws.raw_at full_share ty b o (array_val is.0)) $
      use1 𝓛 (‵ (froom ty b o)) (𝓛.laws.at_room ty b o (array_val is.0)) $ done !))

  module _ (room : Room R n) (ℓ : Lifetime) where
    -- what the lender has while a slice named γ is lent for κ

    abbrev MutLent : Lft → List R.Denot → ℕ → GName → SProp 𝓤
    MutLent κ xs k γ = sep 𝓤 ⟦ Mut R k b o ℓ κ γ xs ⟧ (A.lent κ (Held R k b o γ))

    abbrev ShrLent : Lft → List R.Denot → ℕ → SProp 𝓤
    ShrLent κ xs k = sep 𝓤 ⟦ Shr R k b o ℓ κ xs ⟧ (A.lent κ (Stored R k b o xs))

    mut_lent : (κ : Lft) (xs : List R.Denot) → ent 𝓤 ⟦ Stored R n b o xs ⟧ (H.⇛ (ex 𝓤 (MutLent κ xs n)))
    mut_lent κ xs =
        qed 𝓛 (‵ (Stored R n b o xs) ∷ []) ∵ use1 𝓛 (‵ ((Arr (mem R) n).own_at xs b o)) (parts.whole_in xs b o) $
        fsplit ! $ feq_l ! (λ e.
        by ! (subst (λ (k : ℕ). ent 𝓤 ⟦ cells (mem R) xs b o ⟧ (H.⇛ (ex 𝓤 (MutLent κ xs k)))) e
        (lends_slice 𝓛 R ℓ κ xs b o (subst (Room R) (sym e) room))))

    shr-lent : (κ : Lft) (xs : List R.Denot) → ent 𝓤 ⟦ Stored R n b o xs ⟧ (H.⇛ (ShrLent κ xs n))
    shr-lent κ xs =
        let row : Fml = elements (mem R) (shares R) full_share xs b o in
        let each : Lft → Fml = elements_shared R xs b o in
        qed 𝓛 (‵ (Stored R n b o xs) ∷ []) ∵ updating ! $ fsplit ! $ feq_l ! (λ e. feq_i ! ℕ _ n e $ fjoin ! $
        use1 𝓛 (later (‵ (fhide (each κ)) ⊛ ‵ (flent κ (Stored R n b o xs))))
        (Lent-map 𝓛 (Stored R n b o xs) row each
        (qed 𝓛 (‵ (Stored R n b o xs) ∷ []) {P = ⟦ row ⟧} (fsplit ! $ drop ! $ done !))
        (qed 𝓛 (‵ row ∷ []) {P = ⟦ Stored R n b o xs ⟧} (feq_i ! ℕ _ n e $ done !))
        (each_lends 𝓛 R laws.copied full_share xs b o) κ) $ await ! tt $ split ! $ at_once ! $
        pure_i ! (shr_slice_at R (shared_ref R n b o xs) (slice_val (b, o) n ∷ [])) (tt, (tt, tt))
        (ap (λ (k : ℕ). slice_val (b, o) k ∷ []) (sym e), subst (Room R) (sym e) room) $ fjoin ! $ done !)

    module _ {Γ : List (Item 𝓤)} {G : Goal 𝓤 H} (soaks : Soaks G) where
      pub lends_mut : (xs : List R.Denot)
          → ((μ : ℕ) (γ : GName)
          → Seq Go 𝓛 (‵ (Mut R n b o ℓ (μ ∷ []) γ xs) ∷ ‵ (flft (μ ∷ []) full_share)
          ∷ ‵ (flent (μ ∷ []) (Held R n b o γ)) ∷ Γ) G)
          → Seq Go 𝓛 (‵ (Stored R n b o xs) ∷ Γ) G
      lends_mut xs next =
          lft_new ! soaks (λ μ. move ! (1 ∷ []) $
          use1 𝓛 (later (some (λ (γ : GName).
          ‵ (Mut R n b o ℓ (μ ∷ []) γ xs) ⊛ ‵ (flent (μ ∷ []) (Held R n b o γ))))) (mut_lent (μ ∷ []) xs) $
          await ! soaks $ pick ! (λ γ. split ! $ move ! (0 ∷ 2 ∷ []) $ next μ γ))

      pub mut_back : (μ : ℕ) (γ : GName) (ys : List R.Denot) → Seq Go 𝓛 (‵ (Stored R n b o ys) ∷ Γ) G
          → Seq Go 𝓛 (‵ (flft (μ ∷ []) full_share) ∷ ‵ (finally R γ ys) ∷ ‵ (flent (μ ∷ []) (Held R n b o γ)) ∷ Γ) G
      mut_back μ γ ys next =
          lft_end ! soaks $ move ! (0 ∷ 2 ∷ []) $
          use3 𝓛 (later (‵ ((Arr (mem R) n).own_at ys b o))) (slice_back 𝓛 R (μ ∷ []) γ ys n b o) $ await ! soaks $
          use1 𝓛 (‵ (Stored R n b o ys)) (parts.whole_out ys b o) $ next

      pub lends_shr : (xs : List R.Denot)
          → ((μ : ℕ)
          → Seq Go 𝓛 (‵ (Shr R n b o ℓ (μ ∷ []) xs) ∷ ‵ (flft (μ ∷ []) full_share)
          ∷ ‵ (flent (μ ∷ []) (Stored R n b o xs)) ∷ Γ) G)
          → Seq Go 𝓛 (‵ (Stored R n b o xs) ∷ Γ) G
      lends_shr xs next =
          lft_new ! soaks (λ μ. move ! (1 ∷ []) $
          use1 𝓛 (later (‵ (Shr R n b o ℓ (μ ∷ []) xs) ⊛ ‵ (flent (μ ∷ []) (Stored R n b o xs))))
          (shr-lent (μ ∷ []) xs) $ await ! soaks $ split ! $ move ! (0 ∷ 2 ∷ []) $ next μ)

      pub shr_back : (μ : ℕ) (xs : List R.Denot) → Seq Go 𝓛 (‵ (Stored R n b o xs) ∷ Γ) G
          → Seq Go 𝓛 (‵ (flft (μ ∷ []) full_share) ∷ ‵ (flent (μ ∷ []) (Stored R n b o xs)) ∷ Γ) G
      shr_back μ xs next = lft_end ! soaks $ lent_back ! soaks $ next

-- ---- the borrow of a slice

module _ (R : RattleType) (κ : Lft) (q : Share) (γ : GName) (b o : ℕ) (ys : List R.Denot) where
  abbrev pub Opened : Fml
  Opened =
      fsep (fobor κ q (Held R (length ys) b o γ))
      (fsep (fobs γ ((coded_holeys R).code (heres R ys))) (fauth γ ((coded_holeys R).code (heres R ys))))

  module _ {M : Type 1} {𝓤 : Ura M} {𝓛 : Logic 𝓤} {Γ : List (Item 𝓤)} {G : Goal 𝓤 𝓛.H}
      (soaks : Soaks G) (ℓ : Lifetime) where
    pub opens : Seq Go 𝓛 (‵ (Stored R (length ys) b o ys) ∷ ‵ Opened ∷ Γ) G
        → Seq Go 𝓛 (‵ (Mut R (length ys) b o ℓ κ γ ys) ∷ ‵ (flft κ q) ∷ Γ) G
    opens next =
        fsplit ! $ drop ! $ fsplit ! $ opens_slice ! soaks R ys b o $
        feq_i ! ℕ (length ys) (length ys) refl $ fjoin ! $
        -- [the elements; the open borrow; obs; auth; …]
        move ! (2 ∷ 3 ∷ []) $ fjoin ! $ move ! (2 ∷ 0 ∷ []) $ fjoin ! $ move ! (1 ∷ []) $ next

    pub closes : (zs : List R.Denot) → length zs ≡ length ys → Room R (length ys)
        → Seq Go 𝓛 (‵ (Mut R (length ys) b o ℓ κ γ zs) ∷ ‵ (flft κ q) ∷ Γ) G
        → Seq Go 𝓛 (‵ (Stored R (length ys) b o zs) ∷ ‵ Opened ∷ Γ) G
    closes zs same room next =
        fsplit ! $ feq_l ! (λ _. move ! (1 ∷ []) $ fsplit ! $ move ! (1 ∷ []) $ fsplit ! $ move ! (3 ∷ 2 ∷ []) $
        closes_slice ! soaks R ys zs same b o $ fjoin ! $
        pure_i ! (mut_slice_at R (slice_ref R (length ys) b o γ zs) (slice_val (b, o) (length ys) ∷ [])) (tt, (tt, tt))
        (ap (λ (k : ℕ). slice_val (b, o) k ∷ []) (sym same), subst (Room R) (sym same) room) $ fjoin ! $ next)
