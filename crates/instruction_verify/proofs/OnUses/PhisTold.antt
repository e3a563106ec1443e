-- What is asked of a phi, by numbers and by names.
use Rattle.std.proofs.Common.{◌≡◌, ℕ, zero, suc, ◌+◌, ◌<◌, ◌≤◌, Bool, true, false, not, ◌&&◌, ◌||◌, eqb, List, [], ◌∷◌, ◌++◌, map, length, take, get_or, slice_get, All, Option, Some, None, refl, sym, ap, ◌∙◌, subst, arith}
use Rattle.std.specs.Prelude.{cond, filter, flat_map, slice_index_or, unwrap_or, MatchOption, ⊤}
use Rattle.std.specs.List.{list_all}
use Rattle.std.specs.Option.{option_map, option_map_or}
use Rattle.std.proofs.lemmas.List.{length-map, map-append}
use Rattle.std.proofs.lemmas.List.Elements.{All-append, All-cons, All-head, All-map, All-nil, All-tail}
use Rattle.std.proofs.lemmas.List.Folds.{list_all-map}
use Rattle.std.proofs.lemmas.List.Sums.{sum_by-cons}
use Rattle.std.proofs.lemmas.Option.{slice_get-get_or}
use Rattle.type_table.proofs.UnderIds.{get_or-map}
use Rattle.type_table.specs.Tree.{Tree}
use Rattle.type_table.specs.Types.{trees}
use Rattle.module_arena.specs.Flow.{FlowBlock, flow_block, predecessors}
use Rattle.module_arena.specs.Functions.{body}
use Rattle.module_arena.specs.InstructionRules.{count_local, entries_agree, is_phi, same_names}
use Rattle.module_arena.specs.Changes.{function_in}
use Rattle.module_arena.specs.Lists.{Lists, function_blocks, value_names}
use Rattle.module_arena.specs.Valid.{operation_phi_suits}
use Rattle.module_arena.specs.Mentions.{bare_values_of, targets_of}
use Rattle.module_arena.specs.Module.{Block, Constant, Incoming, LocalName}
use Rattle.module_arena.specs.Operations.{targets}
use Rattle.module_arena.specs.Same.{same_local, same_value, IsApart}
use Rattle.module_arena.specs.View.{block_view, body_view, constants_of, incoming_view, local_view, value_view}
use Rattle.module_arena.specs.declared.entry.Block as the_block
use Rattle.module_arena.specs.declared.entry.Body as the_body
use Rattle.module_arena.specs.declared.entry.Function as the_function
use Rattle.module_arena.specs.declared.entry.Parameter as the_parameter
use Rattle.module_arena.specs.declared.instruction.Incoming as the_incoming
use Rattle.module_arena.specs.declared.instruction.Inst as the_inst
use Rattle.module_arena.specs.declared.instruction.Inst.TheVariants as inst
use Rattle.module_arena.specs.declared.instruction.Value as the_value
use Rattle.module_arena.specs.declared.instruction.Value.TheVariants as value
use Rattle.path_rows.specs.Numbers.{names_of}
use Rattle.path_rows.proofs.Named.{same_at}
use Rattle.instruction_verify.specs.Uses.Uses.{HasLocal, HasUses, block_named, blocks_named, flow_in, instruction_in}
use Rattle.instruction_verify.proofs.OnUses.Entered.{targets_same}
use Rattle.instruction_verify.proofs.OnUses.Named.{so_many_names}
use Rattle.instruction_verify.specs.Uses.Classes.{AreClasses, HasClass}
use Rattle.instruction_verify.specs.Uses.Agreeing.{agree_by, entries_agree_by, same_by}
use Rattle.instruction_verify.specs.Uses.Edges.{count_in, edges_to, entries_suit_by, same_numbers, sources_from, suits_by}

-- ---- lists of known numbers

all_known : (p q : ℕ → Bool) (n : ℕ) → ((x : ℕ) → x < n → p x ≡ q x) → (xs : List ℕ) → All (λ x. x < n) xs → list_all p xs ≡ list_all q xs
all_known p q n same [] all = refl
all_known p q n same (x ∷ xs) all =
    λ j. same x (All-head (λ (x : ℕ). x < n) x xs all) j && all_known p q n same xs (All-tail (λ (x : ℕ). x < n) x xs all) j

-- the blocks that lead to a block are blocks
edges_known : (from to n : ℕ) → from < n → (ts : List ℕ) → All (λ x. x < n) (edges_to from ts to)
edges_known from to n lt [] = All-nil (λ (x : ℕ). x < n)
edges_known from to n lt (t ∷ ts) = by (eqb t to) (edges_known from to n lt ts)
  where
    by : (b : Bool) → All (λ x. x < n) (map (λ (x : ℕ). from) (filter (λ x. eqb x to) ts)) → All (λ x. x < n) (map (λ (x : ℕ). from) (cond b (t ∷ filter (λ x. eqb x to) ts) (filter (λ x. eqb x to) ts)))
    by true rest = All-cons (λ (x : ℕ). x < n) from (map (λ (x : ℕ). from) (filter (λ x. eqb x to) ts)) lt rest
    by false rest = rest

pub sources_known : (bs : List the_block.Block) (first to n : ℕ) → first + length bs ≤ n → All (λ x. x < n) (sources_from first bs to)
sources_known [] first to n le = All-nil (λ (x : ℕ). x < n)
sources_known (b ∷ bs) first to n le =
    All-append (λ (x : ℕ). x < n) (edges_to first (targets_of b.end) to) (sources_from (first + 1) bs to) (edges_known first to n (omega (arith, le)) (targets_of b.end)) (sources_known bs (first + 1) to n (omega (arith, le)))

-- ---- names and numbers

module _ (ns : List LocalName) (apart : IsApart ns) where
  abbrev named : ℕ → LocalName
  named n = slice_index_or ns n (LocalName.Numbered 0)

  named_there : (n : ℕ) → n < length ns → slice_get ns n ≡ Some (named n)
  named_there n lt = slice_get-get_or ns n (LocalName.Numbered 0) lt

  same_named : (x n : ℕ) → x < length ns → n < length ns → same_local (named x) (named n) ≡ eqb x n
  same_named x n l lt = same_at ns (LocalName.Numbered 0) x n (named n) apart l (named_there n lt)

  count_same : (n : ℕ) → n < length ns → (xs : List ℕ) → All (λ x. x < length ns) xs → count_local (map named xs) (named n) ≡ count_in xs n
  count_same n lt [] all = refl
  count_same n lt (x ∷ xs) all =
      sum_by-cons (λ (y : LocalName). cond (same_local y (named n)) 1 0) (named x) (map named xs)
      ∙ (λ j. cond (same_named x n (All-head (λ (x : ℕ). x < length ns) x xs all) lt j) 1 0 + count_same n lt xs (All-tail (λ (x : ℕ). x < length ns) x xs all) j)
      ∙ sym (sum_by-cons (λ (y : ℕ). cond (eqb y n) 1 0) x xs)

  pub names_same : (xs ys : List ℕ) → All (λ x. x < length ns) xs → All (λ x. x < length ns) ys → same_numbers xs ys ≡ same_names (map named xs) (map named ys)
  names_same xs ys all_xs all_ys =
      all_known (λ n. eqb (count_in xs n) (count_in ys n)) (λ n. eqb (count_local (map named xs) (named n)) (count_local (map named ys) (named n))) (length ns)
      (λ n lt j. eqb (sym (count_same n lt xs all_xs) j) (sym (count_same n lt ys all_ys) j)) (xs ++ ys) (All-append (λ (x : ℕ). x < length ns) xs ys all_xs all_ys)
      ∙ sym (list_all-map (λ (name : LocalName). eqb (count_local (map named xs) name) (count_local (map named ys) name)) named (xs ++ ys))
      ∙ ap (list_all (λ (name : LocalName). eqb (count_local (map named xs) name) (count_local (map named ys) name))) (map-append named xs ys)

  -- ---- edges

  module _ (ts : List Tree) (cs : List Constant) (vs : List LocalName) (to : ℕ) (known : to < length ns) where
    abbrev leads : FlowBlock → List LocalName
    leads b = map (λ (t : LocalName). b.name) (filter (λ (t : LocalName). same_local t (named to)) b.targets)

    leads_same : (name : LocalName) (first : ℕ) → named first ≡ name → (xs : List ℕ) → All (λ x. x < length ns) xs
        → map (λ (t : LocalName). name) (filter (λ (t : LocalName). same_local t (named to)) (map named xs)) ≡ map named (edges_to first xs to)
    leads_same name first is [] all = refl
    leads_same name first is (x ∷ xs) all =
        (λ j. map (λ (t : LocalName). name) (cond (same_named x to (All-head (λ (x : ℕ). x < length ns) x xs all) known j) (named x ∷ rest) rest))
        ∙ by (eqb x to) (leads_same name first is xs (All-tail (λ (x : ℕ). x < length ns) x xs all))
      where
        rest : List LocalName
        rest = filter (λ (t : LocalName). same_local t (named to)) (map named xs)

        by : (b : Bool) → map (λ (t : LocalName). name) rest ≡ map named (edges_to first xs to)
            → map (λ (t : LocalName). name) (cond b (named x ∷ rest) rest) ≡ map named (map (λ (t : ℕ). first) (cond b (x ∷ filter (λ t. eqb t to) xs) (filter (λ t. eqb t to) xs)))
        by true e = λ j. sym is j ∷ e j
        by false e = e

    pub sources_same : (bs : List the_block.Block) (first : ℕ) → ((k : ℕ) (b : the_block.Block) → slice_get bs k ≡ Some b → named (first + k) ≡ local_view b.name)
        → All (λ (b : the_block.Block). All (λ t. t < length ns) (targets_of b.end)) bs
        → flat_map leads (map flow_block (map (block_view ts cs vs ns) bs)) ≡ map named (sources_from first bs to)
    sources_same [] first names all = refl
    sources_same (b ∷ bs) first names all =
        let here : first + 0 ≡ first = omega arith in
        let one =
        ap (λ (xs : List LocalName). map (λ (t : LocalName). local_view b.name) (filter (λ (t : LocalName). same_local t (named to)) xs)) (targets_same ts cs vs ns b.end)
        ∙ leads_same (local_view b.name) first (ap named (sym here) ∙ names 0 b refl) (targets_of b.end) (All-head (λ (b : the_block.Block). All (λ (t : ℕ). t < length ns) (targets_of b.end)) b bs all) in
        let others = sources_same bs (first + 1)
        (λ k x at. let next : first + 1 + k ≡ first + suc k = omega arith in ap named next ∙ names (suc k) x at)
        (All-tail (λ (b : the_block.Block). All (λ (t : ℕ). t < length ns) (targets_of b.end)) b bs all) in
        (λ j. one j ++ others j) ∙ sym (map-append named (edges_to first (targets_of b.end) to) (sources_from (first + 1) bs to))

-- ---- entries

module _ (ts : List Tree) (cs : List Constant) (vs ns : List LocalName) (apart_values : IsApart vs) (apart : IsApart ns) (classes : List ℕ) (told : AreClasses cs classes) where
  abbrev Known : the_incoming.Incoming → Type 0
  Known i = HasLocal (length vs) i.value × HasClass (length classes) i.value × (i.block < length ns)

  values_same : (a b : the_value.Value) → HasLocal (length vs) a → HasLocal (length vs) b → HasClass (length classes) a → HasClass (length classes) b
      → same_by classes a b ≡ same_value (value_view ts cs vs ns a) (value_view ts cs vs ns b)
  values_same (value.Local a) (value.Local b) la lb ca cb = sym (same_named vs apart_values a b la lb)
  values_same (value.Local a) (value.Known b) la lb ca cb = refl
  values_same (value.Known a) (value.Local b) la lb ca cb = refl
  values_same (value.Known a) (value.Known b) la lb ca cb = told a b ca cb

  abbrev seen : the_incoming.Incoming → Incoming
  seen i = incoming_view ts cs vs ns i

  abbrev agree_in : Incoming → Incoming → Bool
  agree_in a b = not (same_local a.block b.block) || same_value a.value b.value

  pair_same : (a b : the_incoming.Incoming) → Known a → Known b → agree_by classes a b ≡ agree_in (seen a) (seen b)
  pair_same a b ka kb = λ j. not (sym (same_named ns apart a.block b.block ka.2 kb.2) j) || values_same a.value b.value ka.0 kb.0 ka.1 kb.1 j

  row_same : (a : the_incoming.Incoming) → Known a → (xs : List the_incoming.Incoming) → All Known xs → list_all (agree_by classes a) xs ≡ list_all (agree_in (seen a)) (map seen xs)
  row_same a ka [] all = refl
  row_same a ka (x ∷ xs) all = λ j. pair_same a x ka (All-head Known x xs all) j && row_same a ka xs (All-tail Known x xs all) j

  rows_same : (xs ys : List the_incoming.Incoming) → All Known xs → All Known ys
      → list_all (λ a. list_all (agree_by classes a) ys) xs ≡ list_all (λ a. list_all (agree_in a) (map seen ys)) (map seen xs)
  rows_same [] ys all all_ys = refl
  rows_same (x ∷ xs) ys all all_ys = λ j. row_same x (All-head Known x xs all) ys all_ys j && rows_same xs ys (All-tail Known x xs all) all_ys j

  pub entries_same : (xs : List the_incoming.Incoming) → All Known xs → entries_agree_by classes xs ≡ entries_agree (map seen xs)
  entries_same xs all = rows_same xs xs all all

  pub blocks_same : (xs : List the_incoming.Incoming) → map (λ (i : Incoming). i.block) (map seen xs) ≡ map (named ns apart) (map (λ (i : the_incoming.Incoming). i.block) xs)
  blocks_same [] = refl
  blocks_same (x ∷ xs) = ap (λ (ys : List LocalName). (seen x).block ∷ ys) (blocks_same xs)

-- ---- a function

-- the name of a block
named_from : (bs : List the_block.Block) (k : ℕ) (b : the_block.Block) → slice_get bs k ≡ Some b → slice_index_or (map (λ (x : the_block.Block). local_view x.name) bs) k (LocalName.Numbered 0) ≡ local_view b.name
named_from [] k b at = absurd (subst (λ (o : Option the_block.Block). MatchOption o ⊤ (λ z. ⊥)) at tt)
named_from (x ∷ bs) zero b at = ap (λ (o : Option the_block.Block). local_view (unwrap_or o x).name) at
named_from (x ∷ bs) (suc k) b at = named_from bs k b at

module _ (a : Lists) (f : the_function.Function) where
  abbrev called : List LocalName
  called = map (λ (p : the_parameter.Parameter). local_view p.name) f.parameters

  abbrev blocks_in : Option the_body.Body → List the_block.Block
  blocks_in o = option_map_or (λ (b : the_body.Body). b.blocks) o []

  abbrev names_in : Option the_body.Body → List LocalName
  names_in o = map (λ (b : the_block.Block). local_view b.name) (blocks_in o)

  sources_by : (o : Option the_body.Body) (to : ℕ) (apart : IsApart (names_in o)) → to < length (names_in o)
      → All (λ (b : the_block.Block). All (λ t. t < length (names_in o)) (targets_of b.end)) (blocks_in o)
      → flat_map (λ (b : FlowBlock). map (λ (t : LocalName). b.name) (filter (λ (t : LocalName). same_local t (named (names_in o) apart to)) b.targets))
      (map flow_block (body (option_map (body_view (trees a.table) (constants_of a) called) o)))
      ≡ map (named (names_in o) apart) (sources_from 0 (blocks_in o) to)
  sources_by None to apart known all = refl
  sources_by (Some b) to apart known all =
      sources_same (names_in (Some b)) apart (trees a.table) (constants_of a) (called ++ map local_view b.results) to known b.blocks 0
      (λ k x at. let same : 0 + k ≡ k = omega arith in ap (named (names_in (Some b)) apart) same ∙ named_from b.blocks k x at)
      all

  -- what is asked of the entries of a phi
  pub phi_same : (apart_values : IsApart (names_of f)) (apart : IsApart (blocks_named f)) (classes : List ℕ) (told : AreClasses (constants_of a) classes)
      → All (λ (b : the_block.Block). All (λ t. t < length (function_blocks f)) (targets_of b.end)) (function_blocks f)
      → (to : ℕ) → to < length (function_blocks f)
      → (incoming : List the_incoming.Incoming) → All (λ (i : the_incoming.Incoming). HasLocal (length (names_of f)) i.value × HasClass (length classes) i.value × (i.block < length (function_blocks f))) incoming
      → entries_suit_by classes (sources_from 0 (function_blocks f) to) incoming
      ≡ (same_names (map (λ (i : Incoming). i.block) (map (incoming_view (trees a.table) (constants_of a) (names_of f) (blocks_named f)) incoming)) (predecessors (flow_in a f) (block_named f to))
      && entries_agree (map (incoming_view (trees a.table) (constants_of a) (names_of f) (blocks_named f)) incoming))
  phi_same apart_values apart classes told targets to known incoming entries =
      let ns = blocks_named f in
      let many : length (function_blocks f) ≡ length ns = sym (length-map (function_blocks f) (λ (b : the_block.Block). local_view b.name)) in
      let own = subst (λ (n : ℕ). All (λ (i : the_incoming.Incoming). HasLocal (length (names_of f)) i.value × HasClass (length classes) i.value × (i.block < n)) incoming) many entries in
      let from = λ (i : the_incoming.Incoming). i.block in
      let blocks : All (λ x. x < length ns) (map from incoming) = All-map (λ (x : ℕ). x < length ns) from incoming (λ k d l. (own k d l).2) in
      let edges = sources_known (function_blocks f) 0 to (length ns) (omega (arith, many)) in
      let leading = sources_by f.body to apart (omega (arith, known, many)) (subst (λ (n : ℕ). All (λ (b : the_block.Block). All (λ t. t < n) (targets_of b.end)) (function_blocks f)) many targets) in
      λ j. (names_same ns apart (map from incoming) (sources_from 0 (function_blocks f) to) blocks edges
      ∙ (λ k. same_names (sym (blocks_same (trees a.table) (constants_of a) (names_of f) ns apart_values apart classes told incoming) k) (sym leading k))) j
      && entries_same (trees a.table) (constants_of a) (names_of f) ns apart_values apart classes told incoming own j

  -- what is known of its entries
  abbrev IsEntry : ℕ → the_incoming.Incoming → Type 0
  IsEntry classes i = HasLocal (length (names_of f)) i.value × HasClass classes i.value × (i.block < length (function_blocks f))

  entries_known : (classes : ℕ) (is : List the_incoming.Incoming) → All (HasLocal (length (value_names f))) (map (λ (i : the_incoming.Incoming). i.value) is)
      → All (HasClass classes) (map (λ (i : the_incoming.Incoming). i.value) is) → All (λ id. id < length (function_blocks f)) (map (λ (i : the_incoming.Incoming). i.block) is) → All (IsEntry classes) is
  entries_known classes is vs cs bs k d lt =
      let v = λ (i : the_incoming.Incoming). i.value in
      let b = λ (i : the_incoming.Incoming). i.block in (
        subst (λ (n : ℕ). HasLocal n (get_or is k d).value) (sym (so_many_names f)) (subst (HasLocal (length (value_names f))) (get_or-map v is k d) (vs k (v d) (omega (arith, lt, length-map is v)))),
        subst (HasClass classes) (get_or-map v is k d) (cs k (v d) (omega (arith, lt, length-map is v))),
        subst (λ (id : ℕ). id < length (function_blocks f)) (get_or-map b is k d) (bs k (b d) (omega (arith, lt, length-map is b))),
      )

  -- what is asked of an instruction as a phi
  module _ (apart_values : IsApart (names_of f)) (apart : IsApart (blocks_named f)) (classes : List ℕ) (told : AreClasses (constants_of a) classes)
      (targets : All (λ (b : the_block.Block). All (λ t. t < length (function_blocks f)) (targets_of b.end)) (function_blocks f))
      (to : ℕ) (known : to < length (function_blocks f)) (block : Block) (name : block.name ≡ block_named f to)
      (before : ℕ) (behind : Bool) (behind_is : behind ≡ list_all is_phi (take before block.instructions)) where
    pub suits_told : (i : the_inst.Inst) → HasUses (length (value_names f)) (length (function_blocks f)) i → All (HasClass (length classes)) (bare_values_of i)
        → suits_by classes (sources_from 0 (function_blocks f) to) behind i ≡ operation_phi_suits (function_in a f) block before (instruction_in a f i).operation
    suits_told (inst.Phi result ty incoming) uses cs =
        let view = incoming_view (trees a.table) (constants_of a) (names_of f) (blocks_named f) in
        let same = phi_same apart_values apart classes told targets to known incoming (entries_known (length classes) incoming uses.values_known cs uses.blocks_known) in
        λ j. behind_is j && (same ∙ ap (λ (n : LocalName). same_names (map (λ (i : Incoming). i.block) (map view incoming)) (predecessors (flow_in a f) n) && entries_agree (map view incoming)) (sym name)) j
    suits_told (inst.Binary opcode flags result left right) uses cs = refl
    suits_told (inst.Compare flags predicate result left right) uses cs = refl
    suits_told (inst.Convert opcode flags result operand to') uses cs = refl
    suits_told (inst.Select result choice) uses cs = refl
    suits_told (inst.Freeze result operand) uses cs = refl
    suits_told (inst.Load flags result ty address alignment) uses cs = refl
    suits_told (inst.Store flags stored address alignment) uses cs = refl
    suits_told (inst.Alloca result ty count alignment) uses cs = refl
    suits_told (inst.GetElementPtr flags result source base indices) uses cs = refl
    suits_told (inst.Call call) uses cs = refl
    suits_told (inst.ExtractValue result aggregate indices) uses cs = refl
    suits_told (inst.InsertValue result insertion) uses cs = refl
