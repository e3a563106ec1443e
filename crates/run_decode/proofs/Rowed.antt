-- The actions of blocks one behind the other, and that look-up finds them.
use Rattle.std.proofs.Common.{◌≡◌, ℕ, zero, suc, ◌+◌, ◌<◌, List, [], ◌∷◌, ◌++◌, All, append_assoc, append-nil, Result, Ok, Err, IfOk, OnOk, Some, true, length, take, get_or, map, refl, sym, ap, ◌∙◌, subst, arith}
use Rattle.std.specs.Prelude.{slice_get}
use Rattle.std.specs.List.{AllZip}
use Rattle.std.specs.Option.{option_map, option_map_or}
use Rattle.std.proofs.Math.Seq.{take-suc}
use Rattle.std.proofs.lemmas.List.{map-append}
use Rattle.std.proofs.lemmas.List.Elements.{All-append, All-cons, All-nil}
use Rattle.std.proofs.lemmas.Option.{get_or_from_slice_get, same_Some, slice_get-map, slice_get_within}
use Rattle.std.proofs.lemmas.Slice.Zip.{all_zipped_more}
use Rattle.module_arena.specs.declared.entry.Block as the_block
use Rattle.module_arena.specs.declared.entry.Function as the_function
use Rattle.module_arena.specs.declared.instruction.Inst.{Inst}
use Rattle.module_arena.specs.Known.{IsGood}
use Rattle.module_arena.specs.Lists.{Lists, function_blocks}
use Rattle.module_arena.specs.Module as m
use Rattle.module_arena.specs.Valid.{IsValid}
use Rattle.module_arena.specs.View.{local_view, module_of}
use Rattle.module_arena.specs.WellFormed.{IsWellFormed}
use Rattle.run_rules.specs.Action as actions
use Rattle.run_rules.specs.Look.{look, look_in, names_in}
use Rattle.run_rules.specs.Resolve.{ending_in, instruction_in}
use Rattle.run_rules.specs.Scope.{scope_of}
use Rattle.run_names.proofs.Arena.{function_at_is}
use Rattle.run_names.specs.Standings.{has_code}
use Rattle.run_names.specs.Told.{alone}
use Rattle.run_decode.specs.declared.flat.action.Action.{Action}
use Rattle.run_decode.specs.declared.flat.leaf.Span.{Span}
use Rattle.run_decode.specs.declared.flat.pools.Pools.{Pools}
use Rattle.run_decode.specs.Flat.Flat.{IsWithin}
use Rattle.run_decode.specs.Flat.Grown.{Grows, Stands}
use Rattle.run_decode.specs.Flat.Spans.{IsBetween, IsLonger, IsSpanIn, spanned}
use Rattle.run_decode.proofs.OnFlat.Growth.{span_stays, spanned_same, stands_still, within_stays}
use Rattle.run_decode.proofs.OnFlat.Spanned.{between_in, spanned_more}
use Rattle.run_decode.specs.Body.Bodies.{Decoded, look_of}
use Rattle.run_decode.proofs.OnBody.Looked.{body_looked}
use Rattle.run_decode.specs.Scopes.Scopes.{Framed, block_of, instruction_of, label_of, labels_in, scope_in}
use Rattle.run_decode.proofs.OnScopes.Viewed.{blocks_all}
use Rattle.run_decode.specs.Operands.Endings.{ending_from}
use Rattle.run_decode.specs.Operands.Suits.{AllSuit, BlockSuits}
use Rattle.run_decode.proofs.OnOperands.Ended.{mapped_twice}
use Rattle.run_decode.specs.Suits.Laws.{FunctionsSuit}
use Rattle.run_decode.specs.Operations.{action_from}
use Rattle.run_decode.specs.Rows.{AddsActions, AreRows, IsRow, actions_in}

-- what holds whatever is answered
pub on_any : {A E P : Type 0} (r : Result A E) → P → OnOk r P
on_any (Ok x) h = h
on_any (Err e) h = tt

-- ---- actions that stand when pools grow

module _ (a : Lists) (p q : Pools) (g : Grows p q) where
  pub stand_still : (xs : List Action) (ys : List actions.Action) → AllZip (Stands a p) xs ys → AllZip (Stands a q) xs ys
  stand_still [] [] h = tt
  stand_still [] (y ∷ ys) h = absurd h
  stand_still (x ∷ xs) [] h = absurd h
  stand_still (x ∷ xs) (y ∷ ys) h = (stands_still p q g a x y h.0, stand_still xs ys h.1)

all_within : (a : Lists) (p : Pools) (xs : List Action) (ys : List actions.Action) → AllZip (Stands a p) xs ys → All (IsWithin p) xs
all_within a p [] ys h = All-nil (IsWithin p)
all_within a p (x ∷ xs) [] h = absurd h
all_within a p (x ∷ xs) (y ∷ ys) h = All-cons (IsWithin p) x xs h.0.within (all_within a p xs ys h.1)

still_within : (p q : Pools) (xs : List Action) → Grows p q → All (IsWithin p) xs → All (IsWithin q) xs
still_within p q xs g h = λ k d lt. within_stays p q g (get_or xs k d) (h k d lt)

-- ---- the instructions of a block

pub adds_nothing : (s : Framed) (p : Pools) (old : List Action) (is : List Inst) → AddsActions s p old old (map (action_from s) (take 0 is))
adds_nothing s p old is = record { more = []; actions = sym (append-nil old); stands = tt }

pub adds_more : (s : Framed) (p q : Pools) (old now new : List Action) (x : Action) (is : List Inst) (k : ℕ) (i d : Inst) → Grows p q → k < length is → i ≡ get_or is k d → new ≡ now ++ x ∷ [] → Stands s.lists q x (action_from s i)
    → AddsActions s p old now (map (action_from s) (take k is)) → AddsActions s q old new (map (action_from s) (take (k + 1) is))
adds_more s p q old now new x is k i d g lt here e stands h =
    let count : k + 1 ≡ suc k = omega arith in
    let front : take (k + 1) is ≡ take k is ++ i ∷ [] = ap (λ (n : ℕ). take n is) count ∙ take-suc is k d lt ∙ ap (λ (y : Inst). take k is ++ y ∷ []) (sym here) in
    let meant = ap (map (action_from s)) front ∙ map-append (action_from s) (take k is) (i ∷ []) in
    record {
      more = h.more ++ x ∷ [];
      actions = e ∙ ap (λ (l : List Action). l ++ x ∷ []) h.actions ∙ append_assoc old h.more (x ∷ []);
      stands =
          subst (AllZip (Stands s.lists q) (h.more ++ x ∷ [])) (sym meant)
          (all_zipped_more (Stands s.lists q) h.more (map (action_from s) (take k is)) x (action_from s i) (stand_still s.lists p q g h.more (map (action_from s) (take k is)) h.stands) stands);
    }

-- ---- a block

-- the block with an id has the name that stands for the id
label_is : (s : Framed) (id : ℕ) (b : the_block.Block) → slice_get (function_blocks s.function) id ≡ Some b → label_of s.lists s.function id ≡ local_view b.name
label_is s id b at =
    get_or_from_slice_get (labels_in s.lists s.function) id (local_view b.name) (m.LocalName.Numbered 0)
    (slice_get-map (λ (x : the_block.Block). local_view x.name) (function_blocks s.function) id ∙ ap (option_map (λ (x : the_block.Block). local_view x.name)) at)

module _ (s : Framed) (id : ℕ) (b : the_block.Block) (at : slice_get (function_blocks s.function) id ≡ Some b) where
  -- its actions by its id
  block_meant : map (action_from s) b.instructions ++ ending_from s id b.end ∷ [] ≡ actions_in s b
  block_meant = λ i.
      mapped_twice (instruction_in (scope_in s.lists s.function)) (instruction_of s.lists s.function) b.instructions i
      ++ ending_in (scope_in s.lists s.function) (label_is s id b at i) (block_of s.lists s.function b).ending ∷ []

  module _ (p q : Pools) (g : Grows p q) (old now new : List Action) (end : Action) (added : AddsActions s p old now (map (action_from s) b.instructions)) (pushed : new ≡ now ++ end ∷ []) (ends : Stands s.lists q end (ending_from s id b.end)) where
    abbrev gained : List Action
    gained = added.more ++ end ∷ []

    joined : new ≡ old ++ gained
    joined = pushed ∙ ap (λ (l : List Action). l ++ end ∷ []) added.actions ∙ append_assoc old added.more (end ∷ [])

    pub block_longer : IsLonger old new
    block_longer = (gained, joined)

    stand_all : AllZip (Stands s.lists q) gained (actions_in s b)
    stand_all =
        subst (AllZip (Stands s.lists q) gained) block_meant
        (all_zipped_more (Stands s.lists q) added.more (map (action_from s) b.instructions) end (ending_from s id b.end) (stand_still s.lists p q g added.more (map (action_from s) b.instructions) added.stands) ends)

    pub block_within : (start : Pools) → Grows start q → All (IsWithin start) old → All (IsWithin q) new
    block_within start h within = subst (All (IsWithin q)) (sym joined) (All-append (IsWithin q) old gained (still_within start q old h within) (all_within s.lists q gained (actions_in s b) stand_all))

    pub block_row : (row : Span) → IsBetween (length old) (length new) row → IsRow s q new row b
    block_row row between = record {
      within = between_in new (length old) row between;
      stands = subst (λ (xs : List Action). AllZip (Stands s.lists q) xs (actions_in s b)) (sym (spanned_more old gained new row joined between)) stand_all;
    }

    pub row_put : {E : Type 0} (r : Result Span E) (first : ℕ) → first ≡ length old → IfOk r (IsBetween first (length new)) → IfOk r (λ row. IsRow s q new row b)
    row_put (Ok row) first here between = block_row row (subst (λ (n : ℕ). IsBetween n (length new) row) here between)
    row_put (Err x) first here between = tt

-- of blocks that are one the rows are one
pub same_row : {E : Type 0} (s : Framed) (q : Pools) (new : List Action) (id : ℕ) (b other : the_block.Block) (r : Result Span E) → slice_get (function_blocks s.function) id ≡ Some b → slice_get (function_blocks s.function) id ≡ Some other
    → IfOk r (λ row. IsRow s q new row b) → IfOk r (λ row. IsRow s q new row other)
same_row s q new id b other r at at' h = subst (λ (x : the_block.Block). IfOk r (λ row. IsRow s q new row x)) (same_Some b other (sym at ∙ at')) h

-- what is asked of a block
pub block_suits : (s : Framed) (id : ℕ) (b : the_block.Block) → AllSuit s → slice_get (function_blocks s.function) id ≡ Some b → BlockSuits s b
block_suits s id b h at = subst (BlockSuits s) (get_or_from_slice_get (function_blocks s.function) id b b at) (h.blocks id b (slice_get_within (function_blocks s.function) id b at))

-- ---- all blocks

row_still : (s : Framed) (p q : Pools) (now new : List Action) (row : Span) (b : the_block.Block) → Grows p q → IsLonger now new → IsRow s p now row b → IsRow s q new row b
row_still s p q now new row b g longer h = record {
  within = span_stays now new row longer h.within;
  stands = subst (λ (xs : List Action). AllZip (Stands s.lists q) xs (actions_in s b)) (sym (spanned_same now new row longer h.within)) (stand_still s.lists p q g (spanned now row) (actions_in s b) h.stands);
}

rows_still : (s : Framed) (p q : Pools) (now new : List Action) → Grows p q → IsLonger now new → (rows : List Span) (bs : List the_block.Block) → AllZip (IsRow s p now) rows bs → AllZip (IsRow s q new) rows bs
rows_still s p q now new g longer [] [] h = tt
rows_still s p q now new g longer [] (b ∷ bs) h = absurd h
rows_still s p q now new g longer (row ∷ rows) [] h = absurd h
rows_still s p q now new g longer (row ∷ rows) (b ∷ bs) h = (row_still s p q now new row b g longer h.0, rows_still s p q now new g longer rows bs h.1)

-- the block behind the first so many
pub block_there : (bs : List the_block.Block) (k : ℕ) → k < length bs → (b : the_block.Block) × (slice_get bs k ≡ Some b)
block_there [] k lt = absurd (omega (arith, lt))
block_there (b ∷ bs) zero lt = (b, refl)
block_there (b ∷ bs) (suc k) lt = block_there bs k (omega (arith, lt))

pub rows_more : (s : Framed) (p q : Pools) (now new : List Action) (rows more : List Span) (row : Span) (bs : List the_block.Block) (k : ℕ) (b : the_block.Block) → Grows p q → IsLonger now new → slice_get bs k ≡ Some b → more ≡ rows ++ row ∷ []
    → IsRow s q new row b → AllZip (IsRow s p now) rows (take k bs) → AllZip (IsRow s q new) more (take (k + 1) bs)
rows_more s p q now new rows more row bs k b g longer at e h before =
    let lt = slice_get_within bs k b at in
    let here = get_or_from_slice_get bs k b b at in
    let count : k + 1 ≡ suc k = omega arith in
    let front : take (k + 1) bs ≡ take k bs ++ b ∷ [] = ap (λ (n : ℕ). take n bs) count ∙ take-suc bs k b lt ∙ ap (λ (y : the_block.Block). take k bs ++ y ∷ []) here in
    subst (λ (xs : List Span). AllZip (IsRow s q new) xs (take (k + 1) bs)) (sym e)
    (subst (AllZip (IsRow s q new) (rows ++ row ∷ [])) (sym front) (all_zipped_more (IsRow s q new) rows (take k bs) row b (rows_still s p q now new g longer rows (take k bs) before) h))

-- ---- the body

rows_in : (s : Framed) (p : Pools) (done : List Action) (rows : List Span) (bs : List the_block.Block) → AllZip (IsRow s p done) rows bs → All (IsSpanIn done) rows
rows_in s p done [] bs h = All-nil (IsSpanIn done)
rows_in s p done (row ∷ rows) [] h = absurd h
rows_in s p done (row ∷ rows) (b ∷ bs) h = All-cons (IsSpanIn done) row rows h.0.within (rows_in s p done rows bs h.1)

pub all_rows_in : (s : Framed) (p : Pools) (done : List Action) (rows : List Span) → AreRows s p done rows → All (IsSpanIn done) rows
all_rows_in s p done rows h = rows_in s p done rows (function_blocks s.function) h.rows

rows_seen : (s : Framed) (p : Pools) (done : List Action) (rows : List Span) (bs : List the_block.Block) → AllZip (IsRow s p done) rows bs
    → AllZip (λ (row : List Action) (b : m.Block). AllZip (Stands s.lists p) row (map (instruction_in (scope_in s.lists s.function)) b.instructions ++ ending_in (scope_in s.lists s.function) b.name b.ending ∷ []))
    (map (spanned done) rows) (map (block_of s.lists s.function) bs)
rows_seen s p done [] [] h = tt
rows_seen s p done [] (b ∷ bs) h = absurd h
rows_seen s p done (row ∷ rows) [] h = absurd h
rows_seen s p done (row ∷ rows) (b ∷ bs) h = (h.0.stands, rows_seen s p done rows bs h.1)

-- what the body has at a place is what look-up finds
pub decoded_looked : (s : Framed) (d : Decoded) (p : Pools) (done : List Action) (rows : List Span) (n : ℕ) → IsWellFormed (module_of s.lists) → IsValid (module_of s.lists) → slice_get s.lists.functions n ≡ Some s.function → has_code s.function ≡ true
    → d.lists ≡ s.lists → d.pools ≡ p → d.rows ≡ map (spanned done) rows → AreRows s p done rows
    → (block position : ℕ) → look_of d block position ≡ look (alone (module_of s.lists)) n block position
decoded_looked s d p done rows n well_formed valid at code lists pools seen h block position =
    let sc = scope_in s.lists s.function in
    let blocks = blocks_all s.lists s.function in
    let found = ap (λ o. option_map_or (λ x. look_in (scope_of (names_in (alone (module_of s.lists)) x.0) x.1) block position) o actions.Action.Stuck) (function_at_is s.lists well_formed valid n s.function at code) in
    let stands = subst (λ (bs : List m.Block). AllZip (λ (row : List Action) (b : m.Block). AllZip (Stands s.lists p) row (map (instruction_in sc) b.instructions ++ ending_in sc b.name b.ending ∷ [])) (map (spanned done) rows) bs) (sym blocks) (rows_seen s p done rows (function_blocks s.function) h.rows) in
    let given : Decoded = record { lists = s.lists; pools = p; rows = map (spanned done) rows; widest = d.widest } in
    let same : d ≡ given = λ i. record { lists = lists i; pools = pools i; rows = seen i; widest = d.widest } in
    ap (λ (x : Decoded). look_of x block position) same ∙ body_looked given sc stands block position ∙ sym found

-- the same by the lists of the module
pub body_is : (a : Lists) (s : Framed) (d : Decoded) (p : Pools) (done : List Action) (rows : List Span) (n : ℕ) → s.lists ≡ a → IsWellFormed (module_of a) → IsValid (module_of a) → slice_get a.functions n ≡ Some s.function → has_code s.function ≡ true
    → d.lists ≡ a → d.pools ≡ p → d.rows ≡ map (spanned done) rows → AreRows s p done rows
    → (block position : ℕ) → look_of d block position ≡ look (alone (module_of a)) n block position
body_is a s d p done rows n same well_formed valid at code lists pools seen h block position =
    let back = sym same in
    let found = decoded_looked s d p done rows n (subst (λ (x : Lists). IsWellFormed (module_of x)) back well_formed) (subst (λ (x : Lists). IsValid (module_of x)) back valid) (subst (λ (x : Lists). slice_get x.functions n ≡ Some s.function) back at) code (lists ∙ back) pools seen h block position in
    found ∙ ap (λ (x : Lists). look (alone (module_of x)) n block position) same

-- the function with an id is one
pub code_there : (a : Lists) (n : ℕ) (f g : the_function.Function) → slice_get a.functions n ≡ Some f → slice_get a.functions n ≡ Some g → has_code f ≡ true → has_code g ≡ true
code_there a n f g at at' code = subst (λ (x : the_function.Function). has_code x ≡ true) (same_Some f g (sym at ∙ at')) code

-- ---- what is asked of the function

pub suits_there : (s : Framed) (a : Lists) (n : ℕ) → s.lists ≡ a → slice_get a.functions n ≡ Some s.function → ((f : the_function.Function) (places : List ℕ) → slice_get a.functions n ≡ Some f → AllSuit (record { lists = a; function = f; places = places })) → AllSuit s
suits_there s a n same at h = subst (λ (x : Lists). AllSuit (record { lists = x; function = s.function; places = s.places })) (sym same) (h s.function s.places at)

-- a function of a checked module suits
pub function_suits : (a b p : Lists) (n : ℕ) (f : the_function.Function) (places : List ℕ) → b ≡ a → p ≡ a → FunctionsSuit → IsGood b → IsWellFormed (module_of p) → IsValid (module_of p) → slice_get a.functions n ≡ Some f
    → AllSuit (record { lists = a; function = f; places = places })
function_suits a b p n f places same same' law good well_formed valid at =
    law a (subst IsGood same good) (subst (λ (x : Lists). IsWellFormed (module_of x)) same' well_formed) (subst (λ (x : Lists). IsValid (module_of x)) same' valid) n f at places
