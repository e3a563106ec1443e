-- What holds of a program of which nothing was entered yet, and of one that has a body.
use Rattle.std.proofs.Common.{◌≡◌, ℕ, ◌<◌, List, get_or, length, Option, Some, None, refl, sym, ap, ◌∙◌, subst, arith}
use Rattle.std.specs.Prelude.{replicate, slice_get}
use Rattle.std.proofs.lemmas.List.{get_or-replicate, length-replicate}
use Rattle.std.proofs.lemmas.Option.{get_or_from_slice_get, none-some, slice_get-get_or, slice_get_within}
use Rattle.module_arena.specs.Lists.{Lists}
use Rattle.run_decode.specs.Body.Bodies.{Decoded}
use Rattle.run_decode.specs.Signatures.Met.{Met, none_met}
use Rattle.run_acts.specs.declared.program.program.FrameNeeds.{FrameNeeds}
use Rattle.run_acts.specs.Program.Loaded.{IsBodyOf, IsLoaded, IsReady, Loaded, nothing_ready}

-- nothing is there
none_there : {A : Type 0} (n k : ℕ) (x : A) → slice_get (replicate n None) k ≡ Some (Some x) → ⊥
none_there {A} n k x e =
    let nothing : Option A = None in
    let within = slice_get_within (replicate n nothing) k (Some x) e in
    let many = length-replicate n nothing in
    let here : nothing ≡ Some x = sym (get_or-replicate n k nothing nothing (omega (arith, within, many))) ∙ get_or_from_slice_get (replicate n nothing) k (Some x) nothing e in
    none-some x here

-- no head and no body
abbrev pub no_head : Option FrameNeeds
no_head = None

abbrev pub no_body : Option Decoded
no_body = None

pub loaded_none : (a : Lists) (n m : ℕ) → n ≡ length a.functions → m ≡ length a.functions → IsLoaded a (none_met a) (replicate n no_head) (replicate m no_body)
loaded_none a n m few many = record {
  lists = refl;
  heads_count = length-replicate n no_head ∙ few;
  bodies_count = length-replicate m no_body ∙ many;
  heads = λ id h e. absurd (none_there n id h e);
  bodies = λ function b e. absurd (none_there m function b e);
}

-- the same by what is known of the parts
pub loaded_new : (a b : Lists) (met : Met) (told : List (Option FrameNeeds)) (decoded : List (Option Decoded)) (count : ℕ) → met ≡ none_met b → b ≡ a → told ≡ replicate count no_head → decoded ≡ replicate count no_body → count ≡ length a.functions
    → IsLoaded a met told decoded
loaded_new a b met told decoded count none same few many all =
    subst (λ (m : Met). IsLoaded a m told decoded) (sym (none ∙ ap none_met same))
    (subst (λ (hs : List (Option FrameNeeds)). IsLoaded a (none_met a) hs decoded) (sym few)
    (subst (λ (ds : List (Option Decoded)). IsLoaded a (none_met a) (replicate count no_head) ds) (sym many) (loaded_none a count count all all)))

pub seen_new : (a b : Lists) (met : Met) (decoded : List (Option Decoded)) (count : ℕ) → met ≡ none_met b → b ≡ a → decoded ≡ replicate count no_body → count ≡ length a.functions
    → ◌≡◌ {A = Loaded} (record { lists = a; met = met; bodies = decoded }) (nothing_ready a)
seen_new a b met decoded count none same many all = λ i. record { lists = a; met = (none ∙ ap none_met same) i; bodies = (many ∙ ap (λ (n : ℕ). replicate n no_body) all) i }

-- ---- a body that is there

-- what was read at a place
got_body : (decoded : List (Option Decoded)) (k : ℕ) (o : Option Decoded) (b : Decoded) → k < length decoded → o ≡ get_or decoded k o → o ≡ Some b → slice_get decoded k ≡ Some (Some b)
got_body decoded k o b lt here is = slice_get-get_or decoded k o lt ∙ ap Some (sym here ∙ is)

pub body_of : (p : Loaded) (a : Lists) (met : Met) (told : List (Option FrameNeeds)) (decoded : List (Option Decoded)) → ◌≡◌ {A = Loaded} (record { lists = a; met = met; bodies = decoded }) p → IsLoaded a met told decoded
    → (k : ℕ) (o : Option Decoded) (b one : Decoded) → IsReady p k one → o ≡ get_or decoded k o → o ≡ Some b → IsBodyOf p.lists p.met k b
body_of p a met told decoded is loaded k o b one ready here same =
    let lt : k < length decoded = slice_get_within decoded k (Some one) (ap (λ (x : Loaded). slice_get x.bodies k) is ∙ ready) in
    subst (λ (x : Loaded). IsBodyOf x.lists x.met k b) is (loaded.bodies k b (got_body decoded k o b lt here same))
