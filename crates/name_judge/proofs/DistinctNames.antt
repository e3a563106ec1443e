-- Which global before an item has its name.
use Rattle.std.specs.Prelude.{◌≡◌, refl, ℕ, zero, suc, ◌+◌, ◌<◌, Bool, true, false, ◌||◌, List, [], ◌∷◌, ◌++◌, length, map, filter_map, bytes_eq, Option, Some, None, if◌then◌else◌}
use Rattle.std.specs.List.{cons_option}
use Rattle.std.proofs.Common.{ap, sym, subst, ◌∙◌, arith, get_or, take, drop}
use Rattle.ir_base.specs.declared.place.Place.{Place}
use Rattle.ir_tables.specs.Table.{is_distinct}
use Rattle.ir_terminals.specs.declared.values.PlacedName.{PlacedName}
use Rattle.ir_syntax.specs.declared.item.Item.{Item}
use Rattle.ir_syntax.specs.Tree.{ItemTree}
use Rattle.ir_syntax.specs.View.{item_view, items_view}
use Rattle.module_arena.specs.Module.{Bytes}
use Rattle.name_rules.specs.Breaks.{global_name, global_names, known_in}
use Rattle.name_rules.specs.Demand.{place_of_name}
use Rattle.name_rules.specs.TypeDemands.{Known, has_name}
use Rattle.type_judge.proofs.NamesGathered.{distinct_there, globals-append}
use Rattle.type_table.specs.Names.Entries.{value_of}
use Rattle.name_judge.specs.Seen.{AreKept, earlier_of, place_among}

-- a name that is not there has no place
place_none : (names : List PlacedName) (name : Bytes) → has_name (map (λ (n : PlacedName). n.name) names) name ≡ false → place_of_name names name ≡ None
place_none [] name e = refl
place_none (n ∷ names) name e = by (bytes_eq n.name name) e (place_none names name)
  where
    by : (b : Bool) → (b || has_name (map (λ (n : PlacedName). n.name) names) name) ≡ false → (has_name (map (λ (n : PlacedName). n.name) names) name ≡ false → place_of_name names name ≡ None)
        → (if b then Some n.place else place_of_name names name) ≡ None
    by true e rest = absurd cc
    by false e rest = rest e

-- where the names of all are distinct, no global before an item has its name
pub none_earlier : (before : List ItemTree) (item : ItemTree) (rest : List ItemTree) → is_distinct bytes_eq (global_names (before ++ item ∷ rest)) ≡ true → None ≡ earlier_of before item
none_earlier before item rest e = by (global_name item) (subst (λ (names : List Bytes). is_distinct bytes_eq names ≡ true) (globals-append before (item ∷ rest)) e)
  where
    by : (o : Option PlacedName) → is_distinct bytes_eq (global_names before ++ map (λ (n : PlacedName). n.name) (cons_option o (filter_map global_name rest))) ≡ true → None ≡ place_among (filter_map global_name before) o
    by None q = refl
    by (Some name) q = sym (place_none (filter_map global_name before) name.name (distinct_there (global_names before) name.name (global_names rest) q))

-- of no item none is kept
pub none_kept : (distinct : Bool) (table : List (Bytes × Place)) → table ≡ [] → AreKept distinct table []
none_kept distinct table e = record { each = λ told. record { each = λ name. ap (λ (t : List (Bytes × Place)). value_of t name) e } }

-- items before one, that one, and those behind it
pub items_split : (items : List Item) (i : ℕ) (x : Item) → i < length items → x ≡ get_or items i x → items_view items ≡ items_view (take i items) ++ item_view x ∷ items_view (drop (i + 1) items)
items_split [] i x h e = absurd (omega (arith, h))
items_split (y ∷ items) zero x h e = ap (λ (z : Item). item_view z ∷ items_view items) (sym e)
items_split (y ∷ items) (suc i) x h e =
    let more : suc i + 1 ≡ suc (i + 1) = omega arith in
    rw more (ap (λ (rest : List ItemTree). item_view y ∷ rest) (items_split items i x (omega (arith, h)) e))

-- the names of all are distinct, where those of what the text defines are
pub distinct_at : (known : Known) (slice items : List Item) (i : ℕ) (x : Item) → known ≡ known_in (items_view items) → slice ≡ items → i < length slice → x ≡ get_or slice i x
    → is_distinct bytes_eq known.globals ≡ true → is_distinct bytes_eq (global_names (items_view (take i slice) ++ item_view x ∷ items_view (drop (i + 1) slice))) ≡ true
distinct_at known slice items i x k s h e told =
    ap (λ (trees : List ItemTree). is_distinct bytes_eq (global_names trees)) (sym (items_split slice i x h e) ∙ ap items_view s)
    ∙ ap (λ (known : Known). is_distinct bytes_eq known.globals) (sym k)
    ∙ told
