-- What is copied to an arena stays so where types and constants are added, and where an entry is defined.
use Rattle.std.proofs.Common.{◌≡◌, ℕ, zero, suc, ◌≤◌, List, [], ◌∷◌, map, length, set, get_or, slice_get, Option, Some, None, refl, sym, ap, ◌∙◌, subst, arith}
use Rattle.std.specs.Option.{option_map, option_map_or}
use Rattle.std.proofs.lemmas.List.{length-map}
use Rattle.std.proofs.lemmas.Option.{same_Some, slice_get-map}
use Rattle.module_arena.specs.Changes.{changed_at, with_initialiser, with_target, with_body}
use Rattle.module_arena.specs.Known.{counts}
use Rattle.module_arena.specs.Lists.{Lists, global_name, name_at}
use Rattle.module_arena.specs.declared.entry.Alias as the_alias
use Rattle.module_arena.specs.declared.entry.Body.{Body}
use Rattle.module_arena.specs.declared.entry.Function as the_function
use Rattle.module_arena.specs.declared.entry.GlobalId.{GlobalId}
use Rattle.module_arena.specs.declared.entry.GlobalId.TheVariants as global
use Rattle.module_arena.specs.declared.entry.Variable as the_variable
use Rattle.item_build.specs.Types.Declarations.{AreUntargeted}
use Rattle.item_build.specs.Types.Stands.{Grows}
use Rattle.entry_copy.proofs.ConstantsCopied.{constants_still}
use Rattle.entry_copy.proofs.Starting.{still_copied}
use Rattle.entry_copy.proofs.TypesCopied.{types_still}
use Rattle.module_linker.specs.Filling.Filling.{KeepsCopied}

-- ---- a list of which one element changes

set_image : {X Y : Type 0} (name : X → Y) (xs : List X) (i : ℕ) (x y : X) → slice_get xs i ≡ Some x → name y ≡ name x → map name (set xs i y) ≡ map name xs
set_image name [] i x y at same = refl
set_image name (z ∷ zs) zero x y at same = ap (λ w. w ∷ map name zs) (same ∙ sym (ap name (same_Some z x at)))
set_image name (z ∷ zs) (suc i) x y at same = ap (λ l. name z ∷ l) (set_image name zs i x y at same)

changed_image : {X Y : Type 0} (name : X → Y) (f : X → X) → ((x : X) → name (f x) ≡ name x) → (xs : List X) (i : ℕ) → map name (changed_at xs i f) ≡ map name xs
changed_image {X = X} name f keeps xs i = by (slice_get xs i) refl
  where
    by : (o : Option X) → slice_get xs i ≡ o → map name (option_map_or (λ x. set xs i (f x)) o xs) ≡ map name xs
    by None e = refl
    by (Some x) e = set_image name xs i x (f x) e (keeps x)

-- ---- arenas whose entries have the same names, and whose types and constants are the same

record SameNames (b c : Lists) : Type 0 where
  table : c.table ≡ b.table
  constants : c.constants ≡ b.constants
  variables : map (λ (v : the_variable.Variable). v.name) c.variables ≡ map (λ (v : the_variable.Variable). v.name) b.variables
  aliases : map (λ (x : the_alias.Alias). x.name) c.aliases ≡ map (λ (x : the_alias.Alias). x.name) b.aliases
  functions : map (λ (f : the_function.Function). f.name) c.functions ≡ map (λ (f : the_function.Function). f.name) b.functions

in_list : {X Y : Type 0} (name : X → Y) (xs ys : List X) → map name ys ≡ map name xs → (k : ℕ) → option_map name (slice_get ys k) ≡ option_map name (slice_get xs k)
in_list name xs ys same k = sym (slice_get-map name ys k) ∙ ap (λ l. slice_get l k) same ∙ slice_get-map name xs k

as_many : {X Y : Type 0} (name : X → Y) (xs ys : List X) → map name ys ≡ map name xs → length ys ≡ length xs
as_many name xs ys same = sym (length-map ys name) ∙ ap length same ∙ length-map xs name

module _ (b c : Lists) (h : SameNames b c) where
  name_same : (g : GlobalId) → name_at c g ≡ name_at b g
  name_same (global.Variable id) = ap (λ l. get_or l id []) h.variables
  name_same (global.Function id) = ap (λ l. get_or l id []) h.functions
  name_same (global.Alias id) = ap (λ l. get_or l id []) h.aliases

  called_same : (g : GlobalId) → global_name c g ≡ global_name b g
  called_same (global.Variable id) = in_list (λ (v : the_variable.Variable). v.name) b.variables c.variables h.variables id
  called_same (global.Function id) = in_list (λ (f : the_function.Function). f.name) b.functions c.functions h.functions id
  called_same (global.Alias id) = in_list (λ (x : the_alias.Alias). x.name) b.aliases c.aliases h.aliases id

  counts_same : counts c ≡ counts b
  counts_same =
      let vs = as_many (λ (v : the_variable.Variable). v.name) b.variables c.variables h.variables in
      let xs = as_many (λ (x : the_alias.Alias). x.name) b.aliases c.aliases h.aliases in
      let fs = as_many (λ (f : the_function.Function). f.name) b.functions c.functions h.functions in
      λ i. record { variables = vs i; aliases = xs i; functions = fs i }

  same_keeps : KeepsCopied b c
  same_keeps = record {
    copies = λ structs globals a t copied. still_copied b c h.table h.constants counts_same name_same structs globals a t copied;
    names = λ g name e. called_same g ∙ e;
  }

-- ---- what is copied stays so

pub keeps_itself : (b : Lists) → KeepsCopied b b
keeps_itself b = record { copies = λ structs globals a t h. h; names = λ g name e. e }

pub keeps_on : (b c d : Lists) → KeepsCopied b c → KeepsCopied c d → KeepsCopied b d
keeps_on b c d first more = record {
  copies = λ structs globals a t h. more.copies structs globals a t (first.copies structs globals a t h);
  names = λ g name e. more.names g name (first.names g name e);
}

pub grown_keeps : (b c : Lists) → Grows b c → KeepsCopied b c
grown_keeps b c g = record {
  copies = λ structs globals a t h. record {
    types = types_still structs a b t h.types c g;
    constants = constants_still structs globals a b t h.types h.constants c g;
    all_types = h.all_types;
    all_constants = h.all_constants;
  };
  names = λ id name e. called id ∙ e;
}
  where
    called : (id : GlobalId) → global_name c id ≡ global_name b id
    called (global.Variable id) = ap (λ l. option_map (λ (v : the_variable.Variable). v.name) (slice_get l id)) g.variables
    called (global.Function id) = ap (λ l. option_map (λ (f : the_function.Function). f.name) (slice_get l id)) g.functions
    called (global.Alias id) = ap (λ l. option_map (λ (x : the_alias.Alias). x.name) (slice_get l id)) g.aliases

pub initialised_keeps : (b c : Lists) (id value : ℕ) → c ≡ with_initialiser b id value → KeepsCopied b c
initialised_keeps b c id value e =
    subst (KeepsCopied b) (sym e)
    (same_keeps b (with_initialiser b id value) (record {
      table = refl;
      constants = refl;
      variables = changed_image (λ (v : the_variable.Variable). v.name) (λ (v : the_variable.Variable). record v { initialiser = Some value }) (λ v. refl) b.variables id;
      aliases = refl;
      functions = refl;
    }))

pub defined_keeps : (b c : Lists) (id : ℕ) (body : Body) → c ≡ with_body b id body → KeepsCopied b c
defined_keeps b c id body e =
    subst (KeepsCopied b) (sym e)
    (same_keeps b (with_body b id body) (record {
      table = refl;
      constants = refl;
      variables = refl;
      aliases = refl;
      functions = changed_image (λ (f : the_function.Function). f.name) (λ (f : the_function.Function). record f { body = Some body }) (λ f. refl) b.functions id;
    }))

pub targeted_keeps : (b c : Lists) (id : ℕ) (g : GlobalId) → c ≡ with_target b id g → KeepsCopied b c
targeted_keeps b c id g e =
    subst (KeepsCopied b) (sym e)
    (same_keeps b (with_target b id g) (record {
      table = refl;
      constants = refl;
      variables = refl;
      aliases = changed_image (λ (x : the_alias.Alias). x.name) (λ (x : the_alias.Alias). record x { target = Some g }) (λ x. refl) b.aliases id;
      functions = refl;
    }))

-- ---- aliases that have no target yet

pub untargeted_still : (b c : Lists) (first more : ℕ) → first ≤ more → c.aliases ≡ b.aliases → AreUntargeted first b → AreUntargeted more c
untargeted_still b c first more le same h id x at is = h id x (omega (arith, le, at)) (ap (λ l. slice_get l id) (sym same) ∙ is)
