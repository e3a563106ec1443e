-- How answers are put together, in the order of the demands.
use Rattle.std.proofs.Common.{◌≡◌, ℕ, zero, suc, ◌+◌, ◌≤◌, Bool, true, false, not, IsTrue, List, [], ◌∷◌, ◌++◌, length, drop, Some, None, Result, Ok, Err, refl, sym, ap, ◌∙◌, subst, inl, inr, true≢false, arith}
use Rattle.std.specs.Prelude.{find, flat_map, slice_get, cond}
use Rattle.std.specs.Option.{option_map}
use Rattle.std.proofs.lemmas.Option.{none-some, same_Some}
use Rattle.std.proofs.lemmas.List.{drop_all}
use Rattle.module_arena.specs.Valid.{Entity, Demand, AllHold, IsFirstOf}
use Rattle.entry_verify.specs.declared.types.fault.VerifyFault.{VerifyFault}
use Rattle.entry_verify.specs.declared.types.fault.VerifyFault.TheVariants as fault
use Rattle.entry_verify.specs.declared.types.judged.Check.{Check}
use Rattle.entry_verify.specs.Types.Judged.{Judged, asks, failed_in}

-- ---- one entity

pub none_failed : (entity : Entity) (cs : List Check) → failed_in cs ≡ None → AllHold (asks entity cs)
none_failed entity [] e = tt
none_failed entity (c ∷ cs) e = by (none_failed entity cs) c.passes refl e
  where
    by : (failed_in cs ≡ None → AllHold (asks entity cs)) → (b : Bool) → c.passes ≡ b → option_map (λ (x : Check). x.rule) (cond (not b) (Some c) (find (λ (x : Check). not x.passes) cs)) ≡ None → IsTrue c.passes × AllHold (asks entity cs)
    by rest true p f = (p, rest f)
    by rest false p f = absurd (none-some c.rule (sym f))

pub one_failed : (entity : Entity) (cs : List Check) (rule : ℕ) → failed_in cs ≡ Some rule → IsFirstOf (asks entity cs) entity rule
one_failed entity [] rule e = absurd (none-some rule e)
one_failed entity (c ∷ cs) rule e = by (one_failed entity cs rule) c.passes refl e
  where
    by : (failed_in cs ≡ Some rule → IsFirstOf (asks entity cs) entity rule) → (b : Bool) → c.passes ≡ b → option_map (λ (x : Check). x.rule) (cond (not b) (Some c) (find (λ (x : Check). not x.passes) cs)) ≡ Some rule → IsFirstOf (asks entity (c ∷ cs)) entity rule
    by rest true p f = inr (p, rest f)
    by rest false p f = inl ((λ h. true≢false (sym h ∙ p)), refl, sym (same_Some c.rule rule f))

-- ---- more than one

-- an answer to what is left is an answer to all
abbrev pub Leads : List Demand → List Demand → Type 0
Leads rest all = (r : Result (Unit {0}) VerifyFault) → Judged rest r → Judged all r

-- the front holds: what answers the rest answers both
pub leads_past : (ds es : List Demand) → AllHold ds → Leads es (ds ++ es)
leads_past [] es h r j = j
leads_past (d ∷ ds) es h (Ok x) j = (h.0, leads_past ds es h.1 (Ok x) j)
leads_past (d ∷ ds) es h (Err fault.Memory) j = tt
leads_past (d ∷ ds) es h (Err (fault.FunctionTooLarge name product)) j = absurd j
leads_past (d ∷ ds) es h (Err (fault.Invalid rule entity)) j = inr (h.0, leads_past ds es h.1 (Err (fault.Invalid rule entity)) j)

-- the front fails: so do both
pub fails_first : (ds es : List Demand) (e : VerifyFault) → Judged {T = Unit {0}} ds (Err e) → Judged {T = Unit {0}} (ds ++ es) (Err e)
fails_first ds es fault.Memory j = tt
fails_first ds es (fault.FunctionTooLarge name product) j = absurd j
fails_first [] es (fault.Invalid rule entity) j = absurd j
fails_first (d ∷ ds) es (fault.Invalid rule entity) (inl n) = inl n
fails_first (d ∷ ds) es (fault.Invalid rule entity) (inr p) = inr (p.0, fails_first ds es (fault.Invalid rule entity) p.1)

-- ---- each of some

module _ {X : Type 0} (f : X → List Demand) where
  left_from : (xs : List X) (i : ℕ) (x : X) → slice_get xs i ≡ Some x → flat_map f (drop i xs) ≡ f x ++ flat_map f (drop (suc i) xs)
  left_from [] i x e = absurd (none-some x e)
  left_from (y ∷ xs) zero x e = ap (λ z. f z ++ flat_map f xs) (same_Some y x e)
  left_from (y ∷ xs) (suc i) x e = left_from xs i x e

  left_is : (xs : List X) (i : ℕ) (x : X) → slice_get xs i ≡ Some x → flat_map f (drop i xs) ≡ f x ++ flat_map f (drop (i + 1) xs)
  left_is xs i x e =
      let next : suc i ≡ i + 1 = omega arith in
      left_from xs i x e ∙ ap (λ n. f x ++ flat_map f (drop n xs)) next

  pub leads_next : (xs : List X) (i : ℕ) (x : X) → slice_get xs i ≡ Some x → AllHold (f x)
      → Leads (flat_map f (drop i xs)) (flat_map f xs) → Leads (flat_map f (drop (i + 1) xs)) (flat_map f xs)
  leads_next xs i x e a l r j = l r (subst (λ (ds : List Demand). Judged ds r) (sym (left_is xs i x e)) (leads_past (f x) (flat_map f (drop (i + 1) xs)) a r j))

  pub fails_next : (xs : List X) (i : ℕ) (x : X) (q : VerifyFault) → slice_get xs i ≡ Some x → Judged {T = Unit {0}} (f x) (Err q)
      → Leads (flat_map f (drop i xs)) (flat_map f xs) → Judged {T = Unit {0}} (flat_map f xs) (Err q)
  fails_next xs i x q e j l = l (Err q) (subst (λ (ds : List Demand). Judged {T = Unit {0}} ds (Err q)) (sym (left_is xs i x e)) (fails_first (f x) (flat_map f (drop (i + 1) xs)) q j))

  pub leads_end : (xs : List X) (i : ℕ) → length xs ≤ i → Leads (flat_map f (drop i xs)) (flat_map f xs) → Judged {T = Unit {0}} (flat_map f xs) (Ok tt)
  leads_end xs i h l = l (Ok tt) (subst (λ (ys : List X). Judged {T = Unit {0}} (flat_map f ys) (Ok tt)) (sym (drop_all i xs h)) tt)
