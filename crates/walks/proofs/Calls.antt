-- Calls in a walk by hand.
--
--   hears         a call has returned v. Then v is the machine value of some r, and the callee's `ensures`, which gives
--                 φ of r and of the last values of what was lent, holds. Tokens and last values are back.
--   calls_plain   a call of a function on plain data: parameters and result hold no reference, so nothing is lent, and
--                 the context is as it was.
--
-- The operands of `calls_plain` are read with the callee's precondition at the head of the context: each position is
-- one more there. Assumes `Logic`.
use mathlib.Core.List.{List, [], ◌∷◌}
use seplogic.Ra.Ura.{Ura}
use mir.Syntax.{Callee, Place, Opd as Operand, Body, seq, call}
use mir.Val.{Val}
use base.Logic.{ent, sep, emp, via, emp∗, mono∗, id⊢}
use prog.Wp.{Env, Calls, Loops}
use types.Logic.{Logic}
use sound.WpLaws.{FmC}
use contract.Monad.{fact}
use contract.Lifetimes.{Lfts, Shares, AllOutlive}
use types.Kit.{Item, Goal, Soaks, ‵, raw, ◌⊛◌, some, later, ◌$◌, Post, Seq, lands, runs}
use types.Kit.{use0, use1, await, pick, split, move, drop}
use types.Run.{Opds}
use denote.Laws.{Is, Ises, Are, Makess, owns_make, shows}
use denote.Signature.{types_at, type_at}
use denote.Steps.{heard, facts}
use denote.Triple.Statement.{Triple, Contract}
use denote.Triple.Entry.{Args, Vals, Res, alive}
use denote.Triple.Spec.{triple_of}
use denote.Triple.Bound.{passed}
use denote.Triple.Clauses.{Ended, Clauses, Lasts, at_exit, closing, ensured, lasts}
use denote.Triple.Call.{calls_at}

-- ---- the end of a call

module _ {M : Type 1} {𝓤 : Ura M} {𝓛 : Logic 𝓤} {K : Type 0} {Γ : List (Item 𝓤)}
    {G : Goal 𝓤 𝓛.H} where
  pub hears : K → Soaks G → (T : Ended) (c : Clauses 𝓤 T)
      (κs : Lfts T.signature.lifetimes) (qs : Shares T.signature.lifetimes)
      (bounds : AllOutlive T.signature.lifetimes T.signature.outlives κs)
      (a : Args T.signature κs) (vs : Vals T.signature κs) (g : (c κs a).ghost) (v : Val)
      (φ : Res T.signature κs → Lasts T κs a → Type 0)
      → ((r : Res T.signature κs) (ws : Lasts T κs a)
      → ent 𝓤 ((c κs a).ensures g r (at_exit T κs a ws)) (fact 𝓤 (φ r ws)))
      → ((r : Res T.signature κs) (ws : Lasts T κs a) → φ r ws → Is (type_at T.signature.result κs) r (v ∷ [])
      → Seq K 𝓛 (raw (alive 𝓛 T.signature κs qs) ∷ ‵ (lasts T κs a ws) ∷ Γ) G)
      → Seq K 𝓛 (raw ((triple_of 𝓛 T.signature (closing 𝓛 T c)).post ((κs, qs, bounds, a, vs), g) v) ∷ Γ) G
  hears t soaks T c κs qs bounds a vs g v φ says next =
      let result = type_at T.signature.result κs in
      use1 𝓛 (later (some (λ (r : Res T.signature κs).
      (raw (alive 𝓛 T.signature κs qs) ⊛ ‵ (result.own_val r (v ∷ []))) ⊛ raw (ensured 𝓛 T c κs a g r))))
      (id⊢ 𝓤 _) $ await t soaks $ pick t (λ r. split t $ move t (1 ∷ []) $
      use1 𝓛 (some (λ (ws : Lasts T κs a). ‵ (lasts T κs a ws) ⊛ raw ((c κs a).ensures g r (at_exit T κs a ws))))
      (id⊢ 𝓤 _) $ pick t (λ ws. split t $ move t (1 ∷ []) $ use1 𝓛 (raw (fact 𝓤 (φ r ws))) (says r ws) $
      heard t (φ r ws) (λ does. move t (1 ∷ []) $ split t $ move t (1 ∷ []) $
      facts t result (Is result) (shows 𝓛 result) r (v ∷ []) (λ is. next r ws does is))))

-- ---- a call on plain data

module _ {M : Type 1} {𝓤 : Ura M} {𝓛 : Logic 𝓤} {K : Type 0} {Γ : List (Item 𝓤)}
    {E : Env 𝓤 𝓛.H} {C : Calls 𝓤 𝓛.H} {Λ : Loops 𝓤 𝓛.H} {q : Post 𝓤 𝓛.H}
    {f : Callee} {xs : List Operand} {d : Place} {rest : Body} where
  open 𝓛 use {H}

  pub calls_plain : K → FmC 𝓤 H 𝓛.laws C
      → (T : Ended) (c : Clauses 𝓤 T) → Triple 𝓤 (C f) (triple_of 𝓛 T.signature (closing 𝓛 T c))
      → (κs : Lfts T.signature.lifetimes) (qs : Shares T.signature.lifetimes)
      → (bounds : AllOutlive T.signature.lifetimes T.signature.outlives κs)
      → (a : Args T.signature κs) (vs : Vals T.signature κs) (g : (c κs a).ghost)
      → ent 𝓤 (emp 𝓤) (alive 𝓛 T.signature κs qs)
      → Makess 𝓛 (types_at T.signature.params κs) (Ises (types_at T.signature.params κs))
      → Are (types_at T.signature.params κs) (Ises (types_at T.signature.params κs)) a vs
      → ent 𝓤 (emp 𝓤) ((c κs a).requires g)
      → (φ : Res T.signature κs → Type 0)
      → ((r : Res T.signature κs) (ws : Lasts T κs a)
      → ent 𝓤 ((c κs a).ensures g r (at_exit T κs a ws)) (fact 𝓤 (φ r)))
      → Opds K 𝓛 (raw ((triple_of 𝓛 T.signature (closing 𝓛 T c)).pre ((κs, qs, bounds, a, vs), g)) ∷ Γ) E xs
      (passed 𝓛 T.signature (κs, qs, bounds, a, vs))
      → ((r : Res T.signature κs) (v : Val) → φ r → Is (type_at T.signature.result κs) r (v ∷ [])
      → Seq K 𝓛 Γ (lands C Λ E d v rest q))
      → Seq K 𝓛 Γ (runs C Λ E (seq (call f xs d) rest) q)
  calls_plain t fm T c known κs qs bounds a vs g live make are req φ says os next =
      let contract : Contract 𝓤 = triple_of 𝓛 T.signature (closing 𝓛 T c) in
      let params = types_at T.signature.params κs in
      use0 𝓛 (raw (contract.pre ((κs, qs, bounds, a, vs), g)))
      (via 𝓤 (sep 𝓤 (emp 𝓤) (emp 𝓤)) (emp∗ 𝓤 (emp 𝓤)) (mono∗ 𝓤
      (via 𝓤 (sep 𝓤 (emp 𝓤) (emp 𝓤)) (emp∗ 𝓤 (emp 𝓤))
      (mono∗ 𝓤 live (owns_make 𝓛 params (Ises params) make a vs are))) req)) $
      calls_at t fm contract known ((κs, qs, bounds, a, vs), g) os (λ v.
      hears t tt T c κs qs bounds a vs g v (λ r _. φ r) says (λ r ws does is.
      drop t $ drop t $ next r v does is))
