-- A function is what its record says and its body.
use Rattle.std.proofs.Common.{◌≡◌, ℕ, suc, Bool, List, [], ◌∷◌, ◌++◌, length, Option, Some, refl, sym, ap, ◌∙◌}
use Rattle.std.proofs.lemmas.List.{length-map}
use Rattle.std.specs.Prelude.{map, zip}
use Rattle.type_table.specs.Tree.{Tree}
use Rattle.module_arena.specs.Module.{Parameter, Block, Function}
use Rattle.record_law.specs.FittingModules.{declared, settled}
use Rattle.record_table.specs.Bodies.{Begun, numbers_from}
use Rattle.record_table.specs.Records.{parameters_of, types_of, first_due, with_body, give_body}
use Rattle.module_arena.specs.Names.{parameter_names}

types_kept : (ts : List Tree) (own : ℕ) → map (λ p. p.ty) (parameters_of (zip ts (numbers_from own (length ts)))) ≡ ts
unfolding numbers_from
types_kept [] own = refl
types_kept (t ∷ ts) own = ap (λ all. t ∷ all) (types_kept ts (suc own))

pub declared_types : (f : Function) → types_of (declared f) ≡ types_of f
declared_types f = types_kept (types_of f) 0

pub declared_count : (f : Function) → length (declared f).parameters ≡ length f.parameters
declared_count f = sym (length-map (declared f).parameters (λ p. p.ty)) ∙ ap length (declared_types f) ∙ length-map f.parameters (λ p. p.ty)

named_again : (ps : List Parameter) → parameters_of (zip (map (λ p. p.ty) ps) (map (λ p. p.name) ps)) ≡ ps
named_again [] = refl
named_again (p ∷ ps) = ap (λ all. p ∷ all) (named_again ps)

-- with its names and blocks it is the function
pub with_body_back : (f : Function) (blocks : List Block) (b : Begun) → f.body ≡ Some blocks → b.parameters ≡ parameter_names f → b.blocks ≡ blocks → with_body b (declared f) ≡ f
with_body_back f blocks b is names same =
    let made = λ (ps : List Parameter) (body : Option (List Block)). record f { parameters = ps; body = body } in
    ap (λ ns. made (parameters_of (zip (types_of (declared f)) ns)) (Some b.blocks)) names
    ∙ ap (λ ts. made (parameters_of (zip ts (parameter_names f))) (Some b.blocks)) (declared_types f)
    ∙ ap (λ ps. made ps (Some b.blocks)) (named_again f.parameters)
    ∙ ap (λ all. made f.parameters (Some all)) same
    ∙ ap (made f.parameters) (sym is)

pub first_past : (done : List Function) (rest : List (Bool × Function)) → first_due (map settled done ++ rest) ≡ first_due rest
first_past [] rest = refl
first_past (f ∷ done) rest = first_past done rest

pub give_past : (b : Begun) (done : List Function) (rest : List (Bool × Function)) → give_body b (map settled done ++ rest) ≡ map settled done ++ give_body b rest
give_past b [] rest = refl
give_past b (f ∷ done) rest = ap (λ all. settled f ∷ all) (give_past b done rest)

pub settle : (done : List Function) (f : Function) (rest : List (Bool × Function)) → map settled done ++ settled f ∷ rest ≡ map settled (done ++ f ∷ []) ++ rest
settle [] f rest = refl
settle (g ∷ done) f rest = ap (λ all. settled g ∷ all) (settle done f rest)
