-- Which blocks lead to a block, by numbers and by names.
use Rattle.std.proofs.Common.{◌≡◌, ℕ, zero, suc, ◌<◌, Bool, true, false, not, ◌||◌, eqb, List, [], ◌∷◌, ◌++◌, map, length, slice_get, All, Option, Some, None, refl, sym, ap, ◌∙◌, subst, arith}
use Rattle.std.specs.Prelude.{cond, filter, flat_map, unwrap_or, MatchOption, ⊤}
use Rattle.std.specs.List.{list_any}
use Rattle.std.specs.Option.{option_map, option_map_or}
use Rattle.std.proofs.lemmas.Bool.{eq-eqb, ne_eqb}
use Rattle.std.proofs.lemmas.List.{length-append, length-map}
use Rattle.std.proofs.lemmas.List.Elements.{All-head, All-tail}
use Rattle.std.proofs.lemmas.Option.{same_Some}
use Rattle.type_table.specs.Tree.{Tree}
use Rattle.type_table.specs.Types.{trees}
use Rattle.module_arena.specs.Changes.{function_in}
use Rattle.module_arena.specs.Flow.{FlowBlock, predecessors, flow_block}
use Rattle.module_arena.specs.Functions.{blocks, body}
use Rattle.module_arena.specs.Lists.{Lists, function_blocks}
use Rattle.module_arena.specs.Mentions.{targets_of}
use Rattle.module_arena.specs.Module.{Block, Constant, LocalName}
use Rattle.module_arena.specs.Operations.{targets}
use Rattle.module_arena.specs.Same.{same_local, IsApart}
use Rattle.module_arena.specs.Valid.{BlockOf, Demand, entry_demands, ask}
use Rattle.module_arena.specs.View.{block_name, block_view, body_view, case_view, constants_of, ending_view, local_view}
use Rattle.module_arena.specs.declared.entry.Block as the_block
use Rattle.module_arena.specs.declared.entry.Body as the_body
use Rattle.module_arena.specs.declared.entry.Function as the_function
use Rattle.module_arena.specs.declared.entry.Parameter as the_parameter
use Rattle.module_arena.specs.declared.instruction.Case as the_case
use Rattle.module_arena.specs.declared.instruction.Ending.{Ending}
use Rattle.module_arena.specs.declared.instruction.Ending.TheVariants as ending
use Rattle.path_rows.proofs.Named.{same_at}
use Rattle.instruction_verify.specs.Uses.Uses.{blocks_named, flow_in}

-- ---- no predecessors

none_kept : (p : LocalName → Bool) (x : LocalName) (ts : List LocalName) → list_any p ts ≡ false → length (map (λ (t : LocalName). x) (filter p ts)) ≡ 0
none_kept p x [] e = refl
none_kept p x (t ∷ ts) e = by (p t) (list_any p ts) refl e (none_kept p x ts)
  where
    by : (b c : Bool) → p t ≡ b → (b || c) ≡ false → (c ≡ false → length (map (λ (t : LocalName). x) (filter p ts)) ≡ 0) → length (map (λ (y : LocalName). x) (cond (p t) (t ∷ filter p ts) (filter p ts))) ≡ 0
    by true c q h rest = absurd (subst (λ (z : Bool). cond z ⊤ ⊥) h tt)
    by false c q h rest = ap (λ (z : Bool). length (map (λ (y : LocalName). x) (cond z (t ∷ filter p ts) (filter p ts)))) q ∙ rest h

some_kept : (p : LocalName → Bool) (x : LocalName) (ts : List LocalName) → list_any p ts ≡ true → 0 < length (map (λ (t : LocalName). x) (filter p ts))
some_kept p x [] e = absurd (subst (λ (z : Bool). cond z ⊥ ⊤) e tt)
some_kept p x (t ∷ ts) e = by (p t) (list_any p ts) refl e (some_kept p x ts)
  where
    by : (b c : Bool) → p t ≡ b → (b || c) ≡ true → (c ≡ true → 0 < length (map (λ (t : LocalName). x) (filter p ts))) → 0 < length (map (λ (y : LocalName). x) (cond (p t) (t ∷ filter p ts) (filter p ts)))
    by true c q h rest = subst (λ (z : Bool). 0 < length (map (λ (y : LocalName). x) (cond z (t ∷ filter p ts) (filter p ts)))) (sym q) (omega arith)
    by false c q h rest = subst (λ (z : Bool). 0 < length (map (λ (y : LocalName). x) (cond z (t ∷ filter p ts) (filter p ts)))) (sym q) (rest h)

module _ (p : LocalName → Bool) where
  abbrev leading : FlowBlock → List LocalName
  leading b = map (λ (t : LocalName). b.name) (filter p b.targets)

  abbrev goes : FlowBlock → Bool
  goes b = list_any p b.targets

  none_lead : (fs : List FlowBlock) → list_any goes fs ≡ false → length (flat_map leading fs) ≡ 0
  none_lead [] e = refl
  none_lead (f ∷ fs) e = by (goes f) (list_any goes fs) refl refl e (none_lead fs)
    where
      by : (b c : Bool) → goes f ≡ b → list_any goes fs ≡ c → (b || c) ≡ false → (list_any goes fs ≡ false → length (flat_map leading fs) ≡ 0) → length (leading f ++ flat_map leading fs) ≡ 0
      by true c q r h rest = absurd (subst (λ (z : Bool). cond z ⊤ ⊥) h tt)
      by false c q r h rest = omega (arith, length-append (leading f) (flat_map leading fs), none_kept p f.name f.targets q, rest (r ∙ h))

  some_lead : (fs : List FlowBlock) → list_any goes fs ≡ true → 0 < length (flat_map leading fs)
  some_lead [] e = absurd (subst (λ (z : Bool). cond z ⊥ ⊤) e tt)
  some_lead (f ∷ fs) e = by (goes f) (list_any goes fs) refl refl e (some_lead fs)
    where
      by : (b c : Bool) → goes f ≡ b → list_any goes fs ≡ c → (b || c) ≡ true → (list_any goes fs ≡ true → 0 < length (flat_map leading fs)) → 0 < length (leading f ++ flat_map leading fs)
      by true c q r h rest = omega (arith, length-append (leading f) (flat_map leading fs), some_kept p f.name f.targets q)
      by false c q r h rest = omega (arith, length-append (leading f) (flat_map leading fs), rest (r ∙ h))

  pub lead_counted : (fs : List FlowBlock) → not (list_any goes fs) ≡ eqb (length (flat_map leading fs)) 0
  lead_counted fs = by (list_any goes fs) refl
    where
      by : (b : Bool) → list_any goes fs ≡ b → not b ≡ eqb (length (flat_map leading fs)) 0
      by true e = sym (ne_eqb (length (flat_map leading fs)) 0 (λ z. let l = some_lead fs e in absurd (omega (arith, l, z))))
      by false e = sym (eq-eqb (length (flat_map leading fs)) 0 (none_lead fs e))

-- ---- targets by their numbers

-- a case that goes to a block
pub any_target : (to : ℕ) (cases : List the_case.Case) → list_any (λ (c : the_case.Case). eqb c.target to) cases ≡ list_any (λ t. eqb t to) (map (λ (c : the_case.Case). c.target) cases)
any_target to [] = refl
any_target to (c ∷ cases) = ap (λ (b : Bool). eqb c.target to || b) (any_target to cases)

module _ (ts : List Tree) (cs : List Constant) (vs ns : List LocalName) where
  abbrev name_at : ℕ → LocalName
  name_at = block_name ts cs vs ns

  cases_same : (cases : List the_case.Case) → map (λ c. c.target) (map (case_view ts cs vs ns) cases) ≡ map name_at (map (λ (c : the_case.Case). c.target) cases)
  cases_same [] = refl
  cases_same (c ∷ cases) = ap (λ (xs : List LocalName). name_at c.target ∷ xs) (cases_same cases)

  pub targets_same : (e : Ending) → targets (ending_view ts cs vs ns e) ≡ map name_at (targets_of e)
  targets_same ending.ReturnVoid = refl
  targets_same (ending.Return operand) = refl
  targets_same (ending.Jump target) = refl
  targets_same (ending.Branch condition then_to else_to) = refl
  targets_same (ending.Switch operand otherwise cases) = ap (λ (xs : List LocalName). name_at otherwise ∷ xs) (cases_same cases)
  targets_same ending.Unreachable = refl

  module _ (apart : IsApart ns) (to : ℕ) (y : LocalName) (at : slice_get ns to ≡ Some y) where
    any_same : (xs : List ℕ) → All (λ t. t < length ns) xs → list_any (λ t. eqb t to) xs ≡ list_any (λ (x : LocalName). same_local x y) (map name_at xs)
    any_same [] all = refl
    any_same (x ∷ xs) all =
        λ j. sym (same_at ns (LocalName.Numbered 0) x to y apart (All-head (λ (t : ℕ). t < length ns) x xs all) at) j || any_same xs (All-tail (λ (t : ℕ). t < length ns) x xs all) j

    pub lead_same : (bs : List the_block.Block) → All (λ (b : the_block.Block). All (λ t. t < length ns) (targets_of b.end)) bs
        → list_any (λ (b : the_block.Block). list_any (λ t. eqb t to) (targets_of b.end)) bs ≡ list_any (goes (λ (t : LocalName). same_local t y)) (map flow_block (map (block_view ts cs vs ns) bs))
    lead_same [] all = refl
    lead_same (b ∷ bs) all =
        λ j. (any_same (targets_of b.end) (All-head (λ (x : the_block.Block). All (λ (t : ℕ). t < length ns) (targets_of x.end)) b bs all)
        ∙ ap (list_any (λ (t : LocalName). same_local t y)) (sym (targets_same b.end))) j
        || lead_same bs (All-tail (λ (x : the_block.Block). All (λ (t : ℕ). t < length ns) (targets_of x.end)) b bs all) j

-- ---- the first block

module _ (a : Lists) (f : the_function.Function) where
  abbrev called : List LocalName
  called = map (λ (p : the_parameter.Parameter). local_view p.name) f.parameters

  abbrev seen : Option the_body.Body → List Block
  seen o = body (option_map (body_view (trees a.table) (constants_of a) called) o)

  abbrev entry_asked : the_block.Block → List Demand
  entry_asked b = ask (BlockOf (local_view b.name) f.name) 8 (eqb (length (predecessors (flow_in a f) (local_view b.name))) 0) ∷ []

  none_asked : (o : Option the_body.Body) → length (option_map_or (λ (b : the_body.Body). b.blocks) o []) ≡ 0 → [] ≡ entry_demands (function_in a f) (seen o)
  none_asked None e = refl
  none_asked (Some b) e = by b.blocks e
    where
      by : (bs : List the_block.Block) → length bs ≡ 0 → [] ≡ entry_demands (function_in a f) (map (block_view (trees a.table) (constants_of a) (called ++ map local_view b.results) (map (λ (x : the_block.Block). local_view x.name) b.blocks)) bs)
      by [] z = refl
      by (x ∷ bs) z = absurd (omega (arith, z))

  one_asked : (o : Option the_body.Body) (first : the_block.Block) → slice_get (option_map_or (λ (b : the_body.Body). b.blocks) o []) 0 ≡ Some first → entry_asked first ≡ entry_demands (function_in a f) (seen o)
  one_asked None first e = absurd (subst (λ (o : Option the_block.Block). MatchOption o ⊤ (λ z. ⊥)) e tt)
  one_asked (Some b) first e = by b.blocks e
    where
      by : (bs : List the_block.Block) → slice_get bs 0 ≡ Some first → entry_asked first ≡ entry_demands (function_in a f) (map (block_view (trees a.table) (constants_of a) (called ++ map local_view b.results) (map (λ (x : the_block.Block). local_view x.name) b.blocks)) bs)
      by [] z = absurd (subst (λ (o : Option the_block.Block). MatchOption o ⊤ (λ z. ⊥)) z tt)
      by (x ∷ bs) z = ap entry_asked (sym (same_Some x first z))

  -- a function without blocks is asked nothing
  pub nothing_asked : length (function_blocks f) ≡ 0 → [] ≡ entry_demands (function_in a f) (blocks (function_in a f))
  nothing_asked e = none_asked f.body e

  -- else its first block is asked for no predecessors
  pub first_asked : (first : the_block.Block) → slice_get (function_blocks f) 0 ≡ Some first → entry_asked first ≡ entry_demands (function_in a f) (blocks (function_in a f))
  first_asked first e = one_asked f.body first e

  leads_by : (o : Option the_body.Body) (to : ℕ) (y : LocalName)
      → IsApart (map (λ (b : the_block.Block). local_view b.name) (option_map_or (λ (b : the_body.Body). b.blocks) o []))
      → slice_get (map (λ (b : the_block.Block). local_view b.name) (option_map_or (λ (b : the_body.Body). b.blocks) o [])) to ≡ Some y
      → All (λ (b : the_block.Block). All (λ t. t < length (option_map_or (λ (b : the_body.Body). b.blocks) o [])) (targets_of b.end)) (option_map_or (λ (b : the_body.Body). b.blocks) o [])
      → list_any (λ (b : the_block.Block). list_any (λ t. eqb t to) (targets_of b.end)) (option_map_or (λ (b : the_body.Body). b.blocks) o []) ≡ list_any (goes (λ (t : LocalName). same_local t y)) (map flow_block (seen o))
  leads_by None to y apart at all = refl
  leads_by (Some b) to y apart at all =
      let ns = map (λ (x : the_block.Block). local_view x.name) b.blocks in
      lead_same (trees a.table) (constants_of a) (called ++ map local_view b.results) ns apart to y at b.blocks
      (subst (λ (n : ℕ). All (λ (x : the_block.Block). All (λ t. t < n) (targets_of x.end)) b.blocks) (sym (length-map b.blocks (λ (x : the_block.Block). local_view x.name))) all)

  -- whether a block has no predecessors
  pub unled : (to : ℕ) (y : LocalName) → IsApart (blocks_named f) → slice_get (blocks_named f) to ≡ Some y
      → All (λ (b : the_block.Block). All (λ t. t < length (function_blocks f)) (targets_of b.end)) (function_blocks f)
      → not (list_any (λ (b : the_block.Block). list_any (λ t. eqb t to) (targets_of b.end)) (function_blocks f)) ≡ eqb (length (predecessors (flow_in a f) y)) 0
  unled to y apart at all = ap not (leads_by f.body to y apart at all) ∙ lead_counted (λ (t : LocalName). same_local t y) (flow_in a f).blocks

  -- the name of a block
  pub named_at : (to : ℕ) (b : the_block.Block) → slice_get (function_blocks f) to ≡ Some b → slice_get (blocks_named f) to ≡ Some (local_view b.name)
  named_at to b at = by (function_blocks f) to at
    where
      by : (bs : List the_block.Block) (k : ℕ) → slice_get bs k ≡ Some b → slice_get (map (λ (x : the_block.Block). local_view x.name) bs) k ≡ Some (local_view b.name)
      by [] k e = absurd (subst (λ (o : Option the_block.Block). MatchOption o ⊤ (λ z. ⊥)) e tt)
      by (c ∷ bs) zero e = ap (λ (o : Option the_block.Block). Some (local_view (unwrap_or o c).name)) e
      by (c ∷ bs) (suc k) e = by bs k e
