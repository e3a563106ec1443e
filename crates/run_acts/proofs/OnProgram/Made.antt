-- What is told of a function, and that it stays with a program.
use Rattle.std.proofs.Common.{◌≡◌, ℕ, zero, suc, ◌<◌, true, List, [], ◌∷◌, set, get_or, length, map, Option, Some, None, refl, sym, ap, ◌∙◌, subst, arith}
use Rattle.std.specs.Prelude.{slice_get}
use Rattle.std.proofs.lemmas.Option.{none-some, same_Some, slice_get-get_or, slice_get_within}
use Rattle.module_arena.specs.declared.entry.Function.{Function}
use Rattle.module_arena.specs.declared.entry.Parameter.{Parameter}
use Rattle.module_arena.specs.Lists.{Lists}
use Rattle.module_arena.specs.Valid.{IsValid}
use Rattle.module_arena.specs.View.{module_of}
use Rattle.module_arena.specs.WellFormed.{IsWellFormed}
use Rattle.run_decode.specs.Body.Bodies.{Decoded}
use Rattle.run_initial.specs.Constants.Sound.{names_of}
use Rattle.run_names.specs.declared.callee.CalleeRef.TheVariants as callees
use Rattle.run_names.specs.Standings.{has_code}
use Rattle.run_names.specs.Told.{HasCode}
use Rattle.run_rules.specs.Calls as calls
use Rattle.run_rules.specs.Scope.{leaf_count}
use Rattle.run_decode.specs.Scopes.Scopes.{function_of}
use Rattle.run_decode.specs.Signatures.Met.{Met, known, written_as}
use Rattle.run_decode.specs.Signatures.Numbers.{Numbers}
use Rattle.run_acts.specs.declared.program.program.FrameNeeds.{FrameNeeds}
use Rattle.run_acts.specs.Program.Loaded.{IsBodyOf, IsHead, IsLoaded, Keeps, Loaded, IsReady}
use Rattle.run_acts.proofs.OnProgram.Growing.{loaded_body, loaded_grown, loaded_head}
use Rattle.run_acts.proofs.OnProgram.Heads.{head_is}

-- the function that has a body is the one that is found
pub code_of_found : (a : Lists) (id : ℕ) (f : Function) → HasCode a (callees.Code id) → slice_get a.functions id ≡ Some f → has_code f ≡ true
code_of_found a id f code at = subst (λ (g : Function). has_code g ≡ true) (same_Some code.0 f (sym code.1 ∙ at)) code.2

-- its number, and how many leaves it has
pub head_made : (a : Lists) → IsWellFormed (module_of a) → IsValid (module_of a) → (id : ℕ) (f : Function) → slice_get a.functions id ≡ Some f → has_code f ≡ true → (met : Met) (lists : Lists) (types : List ℕ) (h : FrameNeeds)
    → lists ≡ a → types ≡ map (λ (p : Parameter). p.ty) f.parameters → slice_get (known met) h.signature ≡ Some (written_as lists f.result types f.variadic) → h.leaves ≡ leaf_count (names_of a) (function_of a f) → IsHead a met id h
head_made a well_formed valid id f at code met lists types h same typed number leaves = record {
  function = f;
  there = at;
  signature = written_as a f.result (map (λ (p : Parameter). p.ty) f.parameters) f.variadic;
  written = refl;
  number = number ∙ (λ i. Some (written_as (same i) f.result (typed i) f.variadic));
  callee = head_is a well_formed valid id f at code ∙ ap (calls.Code id (written_as a f.result (map (λ (p : Parameter). p.ty) f.parameters) f.variadic)) (sym leaves);
}

module _ (p : Loaded) (a : Lists) (met : Met) (told : List (Option FrameNeeds)) (decoded : List (Option Decoded)) (is : ◌≡◌ {A = Loaded} (record { lists = a; met = met; bodies = decoded }) p) (loaded : IsLoaded a met told decoded) where
  -- a function of the program has its places
  pub code_here : (id : ℕ) → HasCode p.lists (callees.Code id) → HasCode a (callees.Code id)
  code_here id h = subst (λ (x : Loaded). HasCode x.lists (callees.Code id)) (sym is) h

  pub head_place : (id : ℕ) → HasCode p.lists (callees.Code id) → id < length told
  head_place id h =
      let code = code_here id h in
      let lt = slice_get_within a.functions id code.0 code.1 in
      let many = loaded.heads_count in
      omega (arith, lt, many)

  -- a head is put in its place
  pub loaded_with : (new : Met) → Numbers met new → (id : ℕ) (h : FrameNeeds) → IsHead a new id h → IsLoaded a new (set told id (Some h)) decoded
  loaded_with new numbers id h made = loaded_head a new told decoded (loaded_grown a met new numbers told decoded loaded) id h made

-- what stands where nothing was put, and where something was
set_kept : {A : Type 0} (xs : List (Option A)) (n k : ℕ) (x y : A) → slice_get xs n ≡ Some None → slice_get xs k ≡ Some (Some y) → slice_get (set xs n (Some x)) k ≡ Some (Some y)
set_kept {A} [] n k x y none at = let some : Option A = Some y in absurd (none-some some at)
set_kept {A} (z ∷ zs) zero zero x y none at = let nothing : Option A = None in let some : Option A = Some y in absurd (none-some y (sym (same_Some z nothing none) ∙ same_Some z some at))
set_kept (z ∷ zs) zero (suc k) x y none at = at
set_kept (z ∷ zs) (suc n) zero x y none at = at
set_kept (z ∷ zs) (suc n) (suc k) x y none at = set_kept zs n k x y none at

pub set_there : {A : Type 0} (xs : List A) (n : ℕ) (x : A) → n < length xs → slice_get (set xs n x) n ≡ Some x
set_there [] n x lt = absurd (omega (arith, lt))
set_there (z ∷ zs) zero x lt = refl
set_there (z ∷ zs) (suc n) x lt = set_there zs n x (omega (arith, lt))

module _ (p : Loaded) (a : Lists) (met : Met) (told : List (Option FrameNeeds)) (decoded : List (Option Decoded)) (is : ◌≡◌ {A = Loaded} (record { lists = a; met = met; bodies = decoded }) p) (loaded : IsLoaded a met told decoded) where
  pub body_place : (id : ℕ) → HasCode p.lists (callees.Code id) → id < length decoded
  body_place id h =
      let code = code_here p a met told decoded is loaded id h in
      let lt = slice_get_within a.functions id code.0 code.1 in
      let many = loaded.bodies_count in
      omega (arith, lt, many)

  -- nothing is there yet
  pub body_absent : (id : ℕ) (o : Option Decoded) → id < length decoded → o ≡ get_or decoded id o → o ≡ None → slice_get decoded id ≡ Some None
  body_absent id o lt here same = slice_get-get_or decoded id o lt ∙ ap Some (sym here ∙ same)

  -- and where none is there, none is ready
  pub none_ready : (id : ℕ) → slice_get decoded id ≡ Some None → (b : Decoded) → IsReady p id b → ⊥
  none_ready id none b ready =
      let there : slice_get decoded id ≡ Some (Some b) = subst (λ (x : Loaded). slice_get x.bodies id ≡ Some (Some b)) (sym is) ready in
      cc

  -- a body is put in its place
  pub loaded_prepared : (new : Met) → Numbers met new → (id : ℕ) (b : Decoded) → IsBodyOf a new id b → IsLoaded a new told (set decoded id (Some b))
  loaded_prepared new numbers id b made = loaded_body a new told decoded (loaded_grown a met new numbers told decoded loaded) id b made

  pub keeps_prepared : (new : Met) → Numbers met new → (id : ℕ) (one : Decoded) → slice_get decoded id ≡ Some None → Keeps p (record { lists = a; met = new; bodies = set decoded id (Some one) })
  keeps_prepared new numbers id one none =
      subst (λ (x : Loaded). Keeps x (record { lists = a; met = new; bodies = set decoded id (Some one) })) is
      (record { lists = refl; met = numbers; bodies = λ function b ready. set_kept decoded id function one b none ready })
