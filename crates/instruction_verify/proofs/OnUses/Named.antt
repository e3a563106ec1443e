-- The names and lengths of the blocks of a function of an arena, and the ends of its blocks.
use Rattle.std.proofs.Common.{◌≡◌, ℕ, zero, suc, ◌<◌, Bool, true, false, List, [], ◌∷◌, ◌++◌, map, length, slice_get, Option, Some, None, refl, sym, ap, ◌∙◌, subst, arith}
use Rattle.std.specs.Prelude.{find, cond, slice_index_or, MatchOption, ⊤}
use Rattle.std.specs.Option.{option_map, option_map_or}
use Rattle.std.proofs.lemmas.List.{length-map, length-append}
use Rattle.std.proofs.lemmas.Option.{slice_get-get_or, same_Some}
use Rattle.type_table.specs.Tree.{Tree}
use Rattle.type_table.specs.Types.{trees}
use Rattle.module_arena.specs.Same as same_names
use Rattle.module_arena.proofs.SameNames.{same_is, same_self}
use Rattle.module_arena.specs.Flow.{FlowBlock, end_of, flow_block}
use Rattle.module_arena.specs.Functions.{body}
use Rattle.module_arena.specs.Lists.{Lists, function_blocks, value_names}
use Rattle.module_arena.specs.Module.{Constant, Instruction, LocalName}
use Rattle.module_arena.specs.Paths.{block_names}
use Rattle.module_arena.specs.Same.{same_local}
use Rattle.module_arena.specs.View.{block_view, body_view, constants_of, inst_view, local_view}
use Rattle.module_arena.specs.declared.entry.Block as the_block
use Rattle.module_arena.specs.declared.entry.Body as the_body
use Rattle.module_arena.specs.declared.entry.Function as the_function
use Rattle.module_arena.specs.declared.entry.Parameter as the_parameter
use Rattle.path_rows.specs.Graph.{Graph}
use Rattle.path_rows.specs.Numbers.{names_of}
use Rattle.path_rows.specs.Reflects.{IsBlock, Reflects}
use Rattle.instruction_verify.specs.Uses.Uses.{block_named, blocks_named, end_place, flow_in, lengths_of}

-- as many values as names
pub so_many_names : (f : the_function.Function) → length (names_of f) ≡ length (value_names f)
so_many_names f =
    let results = option_map_or (λ (b : the_body.Body). b.results) f.body [] in
    omega (
      arith,
      length-append (map (λ (p : the_parameter.Parameter). local_view p.name) f.parameters) (map local_view results),
      length-append (map (λ (p : the_parameter.Parameter). p.name) f.parameters) results,
      length-map f.parameters (λ (p : the_parameter.Parameter). local_view p.name),
      length-map f.parameters (λ (p : the_parameter.Parameter). p.name),
      length-map results local_view,
    )

module _ (ts : List Tree) (cs : List Constant) (vs ns : List LocalName) where
  abbrev seen : List the_block.Block → List FlowBlock
  seen bs = map flow_block (map (block_view ts cs vs ns) bs)

  seen_names : (bs : List the_block.Block) → block_names (seen bs) ≡ map (λ (b : the_block.Block). local_view b.name) bs
  seen_names [] = refl
  seen_names (b ∷ bs) = ap (λ (ys : List LocalName). local_view b.name ∷ ys) (seen_names bs)

  seen_length : (b : the_block.Block) → length (flow_block (block_view ts cs vs ns b)).results ≡ length b.instructions
  seen_length b =
      let is = (block_view ts cs vs ns b).instructions in
      omega (arith, length-map is (λ (i : Instruction). i.result), length-map b.instructions (inst_view ts cs vs ns))

  seen_lengths : (bs : List the_block.Block) → map (λ (b : FlowBlock). length b.results) (seen bs) ≡ map (λ (b : the_block.Block). length b.instructions) bs
  seen_lengths [] = refl
  seen_lengths (b ∷ bs) = λ j. seen_length b j ∷ seen_lengths bs j

module _ (a : Lists) (f : the_function.Function) where
  abbrev called : List LocalName
  called = map (λ (p : the_parameter.Parameter). local_view p.name) f.parameters

  abbrev flows : Option the_body.Body → List FlowBlock
  flows o = map flow_block (body (option_map (body_view (trees a.table) (constants_of a) called) o))

  names_by : (o : Option the_body.Body) → block_names (flows o) ≡ map (λ (b : the_block.Block). local_view b.name) (option_map_or (λ (b : the_body.Body). b.blocks) o [])
  names_by None = refl
  names_by (Some b) = seen_names (trees a.table) (constants_of a) (called ++ map local_view b.results) (map (λ (x : the_block.Block). local_view x.name) b.blocks) b.blocks

  lengths_by : (o : Option the_body.Body) → map (λ (b : FlowBlock). length b.results) (flows o) ≡ map (λ (b : the_block.Block). length b.instructions) (option_map_or (λ (b : the_body.Body). b.blocks) o [])
  lengths_by None = refl
  lengths_by (Some b) = seen_lengths (trees a.table) (constants_of a) (called ++ map local_view b.results) (map (λ (x : the_block.Block). local_view x.name) b.blocks) b.blocks

  pub names_told : block_names (flow_in a f).blocks ≡ blocks_named f
  names_told = names_by f.body

  pub lengths_told : map (λ (b : FlowBlock). length b.results) (flow_in a f).blocks ≡ lengths_of f
  lengths_told = lengths_by f.body

  -- a block has its name
  pub block_told : (b : ℕ) → b < length (function_blocks f) → IsBlock (flow_in a f) b (block_named f b)
  block_told b lt =
      subst (λ (xs : List LocalName). slice_get xs b ≡ Some (block_named f b)) (sym names_told)
      (slice_get-get_or (blocks_named f) b (LocalName.Numbered 0) (omega (arith, lt, length-map (function_blocks f) (λ (x : the_block.Block). local_view x.name))))

-- ---- the end of a block, by its number

abbrev IsApart : List FlowBlock → Type 0
IsApart fs = (i j : ℕ) (name : LocalName) → slice_get (block_names fs) i ≡ Some name → slice_get (block_names fs) j ≡ Some name → i ≡ j

apart_rest : (g : FlowBlock) (fs : List FlowBlock) → IsApart (g ∷ fs) → IsApart fs
apart_rest g fs apart i j name p q = let e = apart (suc i) (suc j) name p q in omega (arith, e)

abbrev length_in : List FlowBlock → LocalName → ℕ
length_in fs name = option_map_or (λ (b : FlowBlock). length b.results) (find (λ (b : FlowBlock). same_local b.name name) fs) 0

found : (fs : List FlowBlock) (k : ℕ) (name : LocalName) → IsApart fs → slice_get (block_names fs) k ≡ Some name → length_in fs name ≡ slice_index_or (map (λ (b : FlowBlock). length b.results) fs) k 0
found [] k name apart at = absurd (subst (λ (o : Option LocalName). MatchOption o ⊤ (λ z. ⊥)) at tt)
found (g ∷ fs) zero name apart at =
    let same : same_local g.name name ≡ true = ap (same_local g.name) (sym (same_Some g.name name at)) ∙ same_self g.name in
    ap (λ (t : Bool). option_map_or (λ (b : FlowBlock). length b.results) (cond t (Some g) (find (λ (b : FlowBlock). same_local b.name name) fs)) 0) same
found (g ∷ fs) (suc k) name apart at = by (same_local g.name name) refl ∙ found fs k name (apart_rest g fs apart) at
  where
    by : (t : Bool) → same_local g.name name ≡ t → length_in (g ∷ fs) name ≡ length_in fs name
    by false e = ap (λ (t : Bool). option_map_or (λ (b : FlowBlock). length b.results) (cond t (Some g) (find (λ (b : FlowBlock). same_local b.name name) fs)) 0) e
    by true e = let z = apart 0 (suc k) name (ap Some (same_is g.name name e)) at in absurd (omega (arith, z))

module _ (a : Lists) (f : the_function.Function) (g : Graph) (reflects : Reflects (flow_in a f) (names_of f) g) where
  pub end_told : (b : ℕ) → b < length (function_blocks f) → end_of (flow_in a f) (block_named f b) ≡ end_place f b
  end_told b lt =
      ap (λ (n : ℕ). record { block = block_named f b; before = n })
      (found (flow_in a f).blocks b (block_named f b) reflects.apart (block_told a f b lt) ∙ ap (λ (xs : List ℕ). slice_index_or xs b 0) (lengths_told a f))

-- how many instructions a block has
pub length_told : (f : the_function.Function) (id : ℕ) (b : the_block.Block) → slice_get (function_blocks f) id ≡ Some b → length b.instructions ≡ slice_index_or (lengths_of f) id 0
length_told f id b at = by (function_blocks f) id at
  where
    by : (bs : List the_block.Block) (k : ℕ) → slice_get bs k ≡ Some b → length b.instructions ≡ slice_index_or (map (λ (x : the_block.Block). length x.instructions) bs) k 0
    by [] k e = absurd (subst (λ (o : Option the_block.Block). MatchOption o ⊤ (λ z. ⊥)) e tt)
    by (c ∷ bs) zero e = ap (λ (x : the_block.Block). length x.instructions) (sym (same_Some c b e))
    by (c ∷ bs) (suc k) e = by bs k e

-- no block has the name of another
pub names_apart : (a : Lists) (f : the_function.Function) (g : Graph) → Reflects (flow_in a f) (names_of f) g → same_names.IsApart (blocks_named f)
names_apart a f g r = subst same_names.IsApart (names_told a f) r.apart
