-- The call from C by its cases. Assumes nothing.
use mathlib.Core.Path.{◌≡◌, refl, sym, ap, ◌∙◌}
use mathlib.Core.Bool.{Bool, true, false, cond}
use mathlib.Core.List.{List}
use Prim.Native.Nat.{ℕ, ◌≤◌, ◌<◌}
use lib.ListN.{length}
use Rattle.std.specs.Prelude.{Result, Ok, Err}
use Rattle.counting.specs.Placing.{placed}
use Rattle.counting.proofs.TestLaws.{split}
use Rattle.machine.specs.Refusals.{too_many_words, too_few_lent, bad_bytes, bad_settings, number, numbered}
use Rattle.machine.specs.Tables.{Table}
use Rattle.machine.specs.Shared.{no_cell}
use Rattle.machine.specs.Settings.{settings_fit, settings_of, settings_in, fitting}
use Rattle.machine.specs.Runs.{zero_tally, Outcome, ran_of, run_from}
use Rattle.machine.specs.Images.{image_of}
use Rattle.machine.specs.Bytes.{bytes_of}
use Rattle.machine.specs.Inputs.{Input, input_of}
use Rattle.machine.specs.Calls.{number_of, refused_call, room_for, ran_call, call_for, call_of, Called}
use Rattle.machine.specs.declared.Memory.{Memory}
use Rattle.machine.specs.declared.Ran.{Ran}
use Rattle.machine.specs.declared.Refusal.{Refusal}
use Rattle.machine.specs.declared.Settings.{Settings}
use Rattle.machine.proofs.InputLaws.{call_unfit, call_short, call_ran}
use Rattle.inputs.specs.Opening.{Shows}
use Rattle.inputs.specs.declared.InputError.{InputError}
use Rattle.inputs.specs.declared.InputError.TheVariants.{BadBytes, BadImage, TooMany}
use Rattle.zaguypo.specs.Calls.{CallsTo, refusal_for}

-- ---- what memory is made of settings

pub unfit : (s : Settings) (e : Refusal) → numbered (settings_in (Err e)) ≡ fitting s
    → (settings_fit s ≡ false) × (number e ≡ bad_settings)
unfit s e is = go (settings_fit s) refl
  where
    go : (b : Bool) → settings_fit s ≡ b → (settings_fit s ≡ false) × (number e ≡ bad_settings)
    go true h = let never : Err (number e) ≡ Ok s = is ∙ rw h refl in absurd (cc)
    go false h = let why : Err (number e) ≡ Err bad_settings = is ∙ rw h refl in (h, cc)

pub fit : (s : Settings) (m : Memory) → numbered (settings_in (Ok m)) ≡ fitting s
    → (settings_fit s ≡ true) × (settings_of m ≡ s)
fit s m is = go (settings_fit s) refl
  where
    go : (b : Bool) → settings_fit s ≡ b → (settings_fit s ≡ true) × (settings_of m ≡ s)
    go true h = let what : Ok (settings_of m) ≡ Ok s = is ∙ rw h refl in (h, cc)
    go false h = let never : Ok (settings_of m) ≡ Err bad_settings = is ∙ rw h refl in absurd (cc)

-- ---- refused calls

refused : (c : Called) (l : List ℕ) (e : Refusal) (n : ℕ) → c ≡ refused_call l n → number e ≡ n → CallsTo c l (Err e)
refused c l e n is why =
    record {
      number_is = ap (number_of 0) why ∙ sym (ap (λ (k : Called). k.number) is);
      lent_is = sym (ap (λ (k : Called). k.lent) is);
    }

module _ (s : Settings) (l : List ℕ) where
  -- what the bytes hold
  pub held : (bs : List ℕ) (i : Input) (m : List ℕ) (r : Result ℕ Refusal) → input_of bs ≡ i
      → CallsTo (call_for s i l) m r
      → CallsTo (call_of s bs l) m r
  unfolding call_of
  held bs i m r is a = rw is a

  pub calls_refused : (i : Input) (y : Table) (e : InputError) (why : Refusal) → Shows i y (Err e)
      → number why ≡ refusal_for e s
      → CallsTo (call_for s i l) l (Err why)
  unfolding call_for
  calls_refused i y BadBytes why is n = rw is (refused _ l why bad_bytes refl n)
  calls_refused i y (BadImage e) why is n = rw is (refused _ l why (number e.refusal) refl n)
  calls_refused i y (TooMany k) why is n =
      rw is.holds
      (split (λ b. number why ≡ cond b too_many_words bad_settings
      → CallsTo (cond b (refused_call l too_many_words) (refused_call l bad_settings)) l (Err why)) (settings_fit s)
      (λ _ f. refused _ l why too_many_words refl f) (λ _ f. refused _ l why bad_settings refl f) n)

-- ---- a table and its event words

module _ (s : Settings) (t : Table) (ws l : List ℕ) where
  pub calls_unfit : (e : Refusal) → numbered (settings_in (Err e)) ≡ fitting s
      → CallsTo (call_for s (Input.Ready t ws) l) l (Err e)
  calls_unfit e is = let u = unfit s e is in refused _ l e bad_settings (call_unfit s t ws l u.0) u.1

  module _ (m : Memory) (is : numbered (settings_in (Ok m)) ≡ fitting s) where
    pub calls_short : (e : Refusal) → length l < room_for t → number e ≡ too_few_lent
        → CallsTo (call_for s (Input.Ready t ws) l) l (Err e)
    calls_short e h why = refused _ l e too_few_lent (call_short s t ws l (fit s m is).0 h) why

    -- the call for a run that ended with the outcome o
    abbrev ran : Outcome → Called
    ran o = record { number = number_of o.tally.words o.refusal; lent = placed l 0 (bytes_of (image_of o.table)) }

    ran_by : run_from s t zero_tally no_cell ws ≡ run_from (settings_of m) t zero_tally no_cell ws
    ran_by = ap (λ (x : Settings). run_from x t zero_tally no_cell ws) (sym (fit s m is).1)

    ran_call_by : ran (run_from s t zero_tally no_cell ws) ≡ ran_call s t ws l
    unfolding ran_call
    ran_call_by = refl

    -- the run, whose last table is u
    pub calls_ran : room_for t ≤ length l
        → (o : Outcome) (u : Table) (k : List ℕ) (r : Ran) (n : ℕ)
        → o ≡ run_from (settings_of m) t zero_tally no_cell ws
        → k ≡ placed l 0 (bytes_of (image_of u))
        → u ≡ o.table
        → r ≡ ran_of o
        → n ≡ number_of r.taken r.refusal
        → CallsTo (call_for s (Input.Ready t ws) l) k (Ok n)
    calls_ran h o u k r n oe ke ue re ne =
        let all = ap ran (oe ∙ sym ran_by) ∙ ran_call_by ∙ sym (call_ran s t ws l (fit s m is).0 h) in
        record {
          number_is = ne ∙ ap (λ (x : Ran). number_of x.taken x.refusal) re ∙ ap (λ (c : Called). c.number) all;
          lent_is =
              ke
              ∙ ap (λ (v : Table). placed l 0 (bytes_of (image_of v))) ue
              ∙ ap (λ (c : Called). c.lent) all;
        }
