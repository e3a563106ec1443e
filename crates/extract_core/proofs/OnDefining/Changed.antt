-- An initialiser, a target or a body more changes no name, no type and no constant, so that what is copied stays so.
use Rattle.std.proofs.Common.{◌≡◌, ℕ, zero, suc, List, [], ◌∷◌, map, length, set, get_or, slice_get, Option, Some, None, refl, sym, ap, ◌∙◌, subst}
use Rattle.std.specs.Option.{option_map, option_map_or}
use Rattle.std.proofs.lemmas.List.{length-map}
use Rattle.std.proofs.lemmas.Option.{same_Some, slice_get-map}
use Rattle.module_arena.specs.declared.entry.Alias as the_alias
use Rattle.module_arena.specs.declared.entry.Body.{Body}
use Rattle.module_arena.specs.declared.entry.Function as the_function
use Rattle.module_arena.specs.declared.entry.GlobalId.{GlobalId}
use Rattle.module_arena.specs.declared.entry.GlobalId.TheVariants as global
use Rattle.module_arena.specs.declared.entry.Variable as the_variable
use Rattle.module_arena.specs.Changes.{changed_at, with_initialiser, with_target, with_body}
use Rattle.module_arena.specs.Known.{counts}
use Rattle.module_arena.specs.Lists.{Lists, global_name, name_at}
use Rattle.module_arena.specs.Renamed.{own}
use Rattle.item_build.specs.Types.Stands.{Grows}
use Rattle.entry_copy.specs.Copies.{Copies}
use Rattle.entry_copy.specs.Tables.{Tables}
use Rattle.entry_copy.proofs.ConstantsCopied.{constants_still}
use Rattle.entry_copy.proofs.Starting.{still_copied}
use Rattle.entry_copy.proofs.TypesCopied.{types_still}
use Rattle.extract_core.specs.Declaring.Declaring.{KeepsNames}
use Rattle.extract_core.proofs.OnDeclaring.NewIds.{keeps_same, keeps_on}
use Rattle.extract_core.proofs.OnDeclaring.StaysDeclared.{grown_keeps}
use Rattle.extract_core.specs.Defining.Filling.{KeepsCopies}

-- ---- a list of which one element changes

set_image : {X Y : Type 0} (name : X → Y) (xs : List X) (i : ℕ) (x y : X) → slice_get xs i ≡ Some x → name y ≡ name x → map name (set xs i y) ≡ map name xs
set_image name [] i x y at same = refl
set_image name (z ∷ zs) zero x y at same = ap (λ w. w ∷ map name zs) (same ∙ sym (ap name (same_Some z x at)))
set_image name (z ∷ zs) (suc i) x y at same = ap (λ l. name z ∷ l) (set_image name zs i x y at same)

changed_image : {X Y : Type 0} (name : X → Y) (f : X → X) → ((x : X) → name (f x) ≡ name x) → (xs : List X) (i : ℕ) → map name (changed_at xs i f) ≡ map name xs
changed_image {X = X} name f keeps xs i = by (slice_get xs i) refl
  where
    by : (o : Option X) → slice_get xs i ≡ o → map name (option_map_or (λ x. set xs i (f x)) o xs) ≡ map name xs
    by None e = refl
    by (Some x) e = set_image name xs i x (f x) e (keeps x)

-- ---- arenas whose entries have the same names, and whose types and constants are the same

pub record SameNames (b c : Lists) : Type 0 where
  pub table : c.table ≡ b.table
  pub constants : c.constants ≡ b.constants
  pub variables : map (λ (v : the_variable.Variable). v.name) c.variables ≡ map (λ (v : the_variable.Variable). v.name) b.variables
  pub aliases : map (λ (x : the_alias.Alias). x.name) c.aliases ≡ map (λ (x : the_alias.Alias). x.name) b.aliases
  pub functions : map (λ (f : the_function.Function). f.name) c.functions ≡ map (λ (f : the_function.Function). f.name) b.functions

in_list : {X Y : Type 0} (name : X → Y) (xs ys : List X) → map name ys ≡ map name xs → (k : ℕ) → option_map name (slice_get ys k) ≡ option_map name (slice_get xs k)
in_list name xs ys same k = sym (slice_get-map name ys k) ∙ ap (λ l. slice_get l k) same ∙ slice_get-map name xs k

as_many : {X Y : Type 0} (name : X → Y) (xs ys : List X) → map name ys ≡ map name xs → length ys ≡ length xs
as_many name xs ys same = sym (length-map ys name) ∙ ap length same ∙ length-map xs name

module _ (b c : Lists) (h : SameNames b c) where
  name_same : (g : GlobalId) → name_at c g ≡ name_at b g
  name_same (global.Variable id) = ap (λ l. get_or l id []) h.variables
  name_same (global.Function id) = ap (λ l. get_or l id []) h.functions
  name_same (global.Alias id) = ap (λ l. get_or l id []) h.aliases

  called_same : (g : GlobalId) → global_name c g ≡ global_name b g
  called_same (global.Variable id) = in_list (λ (v : the_variable.Variable). v.name) b.variables c.variables h.variables id
  called_same (global.Function id) = in_list (λ (f : the_function.Function). f.name) b.functions c.functions h.functions id
  called_same (global.Alias id) = in_list (λ (x : the_alias.Alias). x.name) b.aliases c.aliases h.aliases id

  counts_same : counts c ≡ counts b
  counts_same =
      let vs = as_many (λ (v : the_variable.Variable). v.name) b.variables c.variables h.variables in
      let xs = as_many (λ (x : the_alias.Alias). x.name) b.aliases c.aliases h.aliases in
      let fs = as_many (λ (f : the_function.Function). f.name) b.functions c.functions h.functions in
      λ i. record { variables = vs i; aliases = xs i; functions = fs i }

  pub names_kept : KeepsNames b c
  names_kept g name e = called_same g ∙ e

  copies_kept : (a : Lists) (t : Tables) → Copies own own a b t → Copies own own a c t
  copies_kept a t copied = still_copied b c h.table h.constants counts_same name_same own own a t copied

-- ---- what is copied stays so

pub keeps_all_same : (b : Lists) → KeepsCopies b b
keeps_all_same b = record { copies = λ a t h. h; names = keeps_same b; aliases = refl }

pub keeps_all_on : (b c d : Lists) → KeepsCopies b c → KeepsCopies c d → KeepsCopies b d
keeps_all_on b c d first more = record {
  copies = λ a t h. more.copies a t (first.copies a t h);
  names = keeps_on b c d first.names more.names;
  aliases = more.aliases ∙ first.aliases;
}

pub grown_keeps_all : (b c : Lists) → Grows b c → KeepsCopies b c
grown_keeps_all b c g = record {
  copies = λ a t h. record {
    types = types_still own a b t h.types c g;
    constants = constants_still own own a b t h.types h.constants c g;
    all_types = h.all_types;
    all_constants = h.all_constants;
  };
  names = grown_keeps b c g;
  aliases = g.aliases;
}

pub initialised_keeps_all : (b c : Lists) (id value : ℕ) → c ≡ with_initialiser b id value → KeepsCopies b c
initialised_keeps_all b c id value e =
    let d = with_initialiser b id value in
    let same : SameNames b d = record {
      table = refl;
      constants = refl;
      variables = changed_image (λ (v : the_variable.Variable). v.name) (λ (v : the_variable.Variable). record v { initialiser = Some value }) (λ v. refl) b.variables id;
      aliases = refl;
      functions = refl;
    } in
    subst (KeepsCopies b) (sym e) (record { copies = copies_kept b d same; names = names_kept b d same; aliases = refl })

pub defined_keeps_all : (b c : Lists) (id : ℕ) (body : Body) → c ≡ with_body b id body → KeepsCopies b c
defined_keeps_all b c id body e =
    let d = with_body b id body in
    let same : SameNames b d = record {
      table = refl;
      constants = refl;
      variables = refl;
      aliases = refl;
      functions = changed_image (λ (f : the_function.Function). f.name) (λ (f : the_function.Function). record f { body = Some body }) (λ f. refl) b.functions id;
    } in
    subst (KeepsCopies b) (sym e) (record { copies = copies_kept b d same; names = names_kept b d same; aliases = refl })

-- a target more keeps names
pub targeted_keeps : (b c : Lists) (id : ℕ) (g : GlobalId) → c ≡ with_target b id g → KeepsNames b c
targeted_keeps b c id g e =
    let d = with_target b id g in
    let same : SameNames b d = record {
      table = refl;
      constants = refl;
      variables = refl;
      aliases = changed_image (λ (x : the_alias.Alias). x.name) (λ (x : the_alias.Alias). record x { target = Some g }) (λ x. refl) b.aliases id;
      functions = refl;
    } in
    subst (KeepsNames b) (sym e) (names_kept b d same)
