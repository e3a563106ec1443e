-- What is known of a defined variable of a sound arena, and of an arena's constants.
use Rattle.std.proofs.Common.{◌≡◌, ℕ, ◌+◌, ◌^◌, ◌<◌, ◌≤◌, All, List, [], length, option_to_list, Bool, true, false, not, ◌&&◌, Option, Some, None, is_some, refl, sym, ap, ◌∙◌, subst, arith}
use Rattle.std.specs.Prelude.{slice_get, Result, Ok, Err, IfOk, IsOk, if◌then◌else◌}
use Rattle.std.specs.Option.{option_map_or}
use Rattle.std.proofs.lemmas.Bool.{and_parts, false≢true}
use Rattle.std.proofs.lemmas.Option.{same_Some, slice_get_within}
use Rattle.ir_eval.specs.declared.value.Pointer.{Pointer}
use Rattle.ir_memory.specs.declared.kind.BlockKind.TheVariants as kind
use Rattle.ir_memory.specs.MemoryBlock.{new_block}
use Rattle.ir_memory.specs.Memory.{Blocks, no_blocks}
use Rattle.linkage_rules.specs.Linkages.{is_appending}
use Rattle.type_table.specs.Limits.{Fits, IsWithin}
use Rattle.type_table.specs.Layout.{size}
use Rattle.type_table.specs.Types.{Types, structs, tree}
use Rattle.type_table.specs.Types as types
use Rattle.module_arena.specs.Changes.{constant_in}
use Rattle.module_arena.specs.declared.constant.Const.{Const}
use Rattle.module_arena.specs.declared.entry.Variable.{Variable}
use Rattle.module_arena.specs.Known.{IsGood, KnowsVariable}
use Rattle.module_arena.specs.Lists.{Lists}
use Rattle.module_arena.specs.TypeTests.{lies_in_memory}
use Rattle.module_arena.specs.Valid.{IsValid}
use Rattle.module_arena.specs.View.{module_of}
use Rattle.module_arena.specs.WellFormed.{IsWellFormed}
use Rattle.module_arena.proofs.ConstantsTold.{constant_here}
use Rattle.linkage_rules.proofs.Steps.{all_get}
use Rattle.run_initial.specs.Constants.Sound.{IsPart, constant_of, names_of}
use Rattle.run_names.proofs.Bounded as bounded
use Rattle.run_names.specs.Spots.{defines, is_defined, size_of}
use Rattle.run_rules.specs.Opening.{with_variables}
use Rattle.run_rules.specs.Plan as plans
use Rattle.run_rules.specs.Plan.{Contents}
use Rattle.run_names.specs.Shapes.Shapes.{shape_in}
use Rattle.run_names.proofs.OnShapes.Outlines.{laid_is, shape_fits}
use Rattle.run_initial.specs.Initial.Constants.{value_at}
use Rattle.run_initial.specs.Initial.Fresh.{put}
use Rattle.run_initial.proofs.OnInitial.Fresh.{IsFresh, all_put}
use Rattle.run_initial.proofs.OnInitial.Sounds.{blocks}
use Rattle.run_initial.specs.Contents.Held.{held, held_by, is_list}
use Rattle.run_initial.specs.Contents.Placed.{ArePlaced, Fills, IsNewBlock}
use Rattle.run_initial.proofs.OnContents.Holdings.{held_order, held_stored, sound}

-- a block that is as it was made is fresh
new_fresh : (m : Blocks) (p : Pointer) (size : ℕ) → (b : IsNewBlock m p size) → IsFresh m p b.index [] size
new_fresh m p size b = record {
  block = new_block p.address size (kind.Variable b.constant);
  of_block = b.of_block;
  address = refl;
  there = b.there;
  live = refl;
  long = omega arith;
  near = b.near;
  cells = refl;
  unsealed = b.unsealed;
}

-- a list is put whatever the linkage, and anything where it is not appending
pub of_list : (appending list : Bool) → list ≡ true → (appending && not list) ≡ false
of_list true list e = ap not e
of_list false list e = refl

pub of_others : (appending list : Bool) → appending ≡ false → (appending && not list) ≡ false
of_others true list e = absurd (false≢true (sym e))
of_others false list e = refl

-- ---- a constant of a form

pub list_told : (a b : Lists) → b ≡ a → IsGood b → (id : ℕ) (known form : Const) → id < length a.constants → slice_get b.constants id ≡ Some known → known ≡ form → is_list (constant_in a form) ≡ is_list (constant_of a id)
list_told a b same good id known form lt at is =
    sym
    (ap is_list
    (subst (λ (x : Lists). constant_of x id ≡ constant_in x known) same (constant_here b good id known at) ∙ ap (constant_in a) is))

-- ---- a variable that is defined

pub defines_within : (a : Lists) (n : ℕ) → defines a n ≡ true → n < length a.variables
defines_within a n h = go (slice_get a.variables n) refl h
  where
    go : (o : Option Variable) → slice_get a.variables n ≡ o → option_map_or is_defined o false ≡ true → n < length a.variables
    go None e k = cc
    go (Some v) e k = slice_get_within a.variables n v e

pub initialised : (v : Variable) → is_defined v ≡ true → (id : ℕ) × (v.initialiser ≡ Some id)
initialised v h = go v.initialiser refl (and_parts (is_some v.initialiser) _ h).0
  where
    go : (o : Option ℕ) → v.initialiser ≡ o → is_some o ≡ true → (id : ℕ) × (v.initialiser ≡ Some id)
    go None e k = cc
    go (Some id) e k = (id, e)

module _ (a b : Lists) (same : b ≡ a) (good : IsGood b) (well_formed : IsWellFormed (module_of a)) (valid : IsValid (module_of a)) (number : ℕ) (v : Variable) (there : slice_get b.variables number ≡ Some v) (defined : defines a number ≡ true) (id : ℕ) (has : v.initialiser ≡ Some id) where
  at : slice_get a.variables number ≡ Some v
  at = subst (λ (x : Lists). slice_get x.variables number ≡ Some v) same there

  is : is_defined v ≡ true
  is = sym (ap (λ (o : Option Variable). option_map_or is_defined o false) at) ∙ defined

  known : KnowsVariable (length a.table.types) (length a.constants) v
  known = subst (λ (x : Lists). KnowsVariable (length x.table.types) (length x.constants) v) same (all_get (KnowsVariable (length b.table.types) (length b.constants)) b.variables number v good.variables there)

  pub value_known : id < length a.constants
  value_known = subst (λ (o : Option ℕ). All (λ (n : ℕ). n < length a.constants) (option_to_list o)) has known.initialiser_known 0 id (omega arith)

  pub part : IsPart a (record { ty = v.ty; value = id })
  part = record { ty = known.ty_known; value = value_known; sound = sound a well_formed valid number v at is id has }

  pub laid : lies_in_memory (structs a.table) (tree a.table v.ty) ≡ true
  laid = bounded.lies_in_memory a number v at valid defined

  pub ends : (t : Types) → t ≡ a.table → types.IsGood t → IsWithin t → 0 + size (shape_in a.table v.ty) ≤ 2 ^ 40
  ends t e typed within =
      let lt : v.ty < length t.types = subst (λ (x : Types). v.ty < length x.types) (sym e) known.ty_known in
      let fits : Fits (shape_in a.table v.ty) = subst (λ (x : Types). Fits (shape_in x v.ty)) e (shape_fits t typed within v.ty lt) in
      let most = fits.size_fits (laid_is a.table v.ty laid) in
      omega (arith, most)

  -- what is stored is what the variable holds, and every store of it goes well
  module _ (plain : (is_appending v.linkage && not (is_list (constant_of a id))) ≡ false) where
    its_value : value_at (names_of a) (tree a.table v.ty) (constant_of a id) 0 ≡ held a v
    its_value =
        sym (ap (λ (b : Bool). if b then [] else value_at (names_of a) (tree a.table v.ty) (constant_of a id) 0) plain)
        ∙ sym (ap (λ (o : Option ℕ). option_map_or (held_by a v) o []) has)

    pub value_held : (w : Variable) → slice_get a.variables number ≡ Some w → value_at (names_of a) (tree a.table v.ty) (constant_of a id) 0 ≡ held a w
    value_held w its = its_value ∙ ap (held a) (same_Some v w (sym at ∙ its))

    pub goes_well : (m : Blocks) (p : Pointer) → ((w : Variable) → slice_get a.variables number ≡ Some w → IsNewBlock m p (size_of a w)) → IsOk (put p (value_at (names_of a) (tree a.table v.ty) (constant_of a id) 0) m)
    goes_well m p new =
        let block = new v at in
        subst (λ (xs : Contents). IsOk (put p xs m)) (sym its_value)
        (all_put (held a v) m p block.index [] (size_of a v) (size_of a v) (blocks a) (omega arith) (new_fresh m p (size_of a v) block)
        (held_order a well_formed valid number v at is id has) (held_stored a well_formed valid number v at is id has))

-- ---- blocks that were made

pub placed_where : {E : Type 0} (a : Lists) (r : Result Bool E) (vs ws : List plans.Variable) (m : Blocks) → vs ≡ ws → IfOk r (λ all. Fills all (with_variables vs no_blocks) m) → (with_variables ws no_blocks ≡ Ok m → ArePlaced a m) → IfOk r (λ all. all ≡ true → ArePlaced a m)
placed_where a (Ok true) vs ws m same h placed = λ e. placed (ap (λ (l : List plans.Variable). with_variables l no_blocks) (sym same) ∙ h)
placed_where a (Ok false) vs ws m same h placed = λ e. cc
placed_where a (Err x) vs ws m same h placed = tt
