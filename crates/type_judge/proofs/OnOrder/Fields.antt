-- The measure of a struct, field by field.
use Rattle.std.specs.Prelude.{◌≡◌, refl, ℕ, zero, suc, ◌+◌, ◌*◌, ◌^◌, ◌-◌, ◌<◌, ◌≤◌, min, nat_le, Bool, true, false, List, length, map, option_map, Option, Some, None}
use Rattle.std.specs.List.{fold}
use Rattle.std.proofs.Common.{ap, sym, ◌∙◌, arith, get_or, drop, mul-zero, mul-suc}
use Rattle.std.proofs.lemmas.Bool.{leb-true, leb-false}
use Rattle.std.proofs.lemmas.List.{drop_more, drop_all}
use Rattle.ir_phrases.specs.declared.constants.ty.Type as the_type
use Rattle.ir_phrases.specs.Constants.Tree.{types}
use Rattle.ir_phrases.specs.Constants.View.{type_view}
use Rattle.type_table.specs.declared.measure.Measure.{Measure}
use Rattle.type_table.specs.declared.layout.Layout.{Layout}
use Rattle.type_table.specs.Measures.{with_field, closed, array_measure, capped, capped_nesting, capped_parts}
use Rattle.type_judge.specs.Order.Measuring.{array_length}
use Rattle.module_arena.specs.Module.{Bytes}
use Rattle.name_rules.specs.Measured.{joined, tree_measured, all_measured}
use Rattle.name_rules.specs.Written.{type_in, types_in}

-- the struct of the fields so far and of these
abbrev pub with_all : Bool → Measure → List Measure → Measure
with_all packed sofar fields = closed (fold (with_field packed) sofar fields)

-- the struct of the fields so far and of those from one on
abbrev pub with_more : (Bytes → Option Measure) → Bool → Measure → List the_type.Type → ℕ → Option Measure
with_more look packed sofar fields i = option_map (with_all packed sofar) (all_measured look (types_in (types (map type_view (drop i fields)))))

join_next : (packed : Bool) (sofar : Measure) (field : Measure) (rest : Option (List Measure)) → option_map (with_all packed sofar) (joined (Some field) rest) ≡ option_map (with_all packed (with_field packed sofar field)) rest
join_next packed sofar field None = refl
join_next packed sofar field (Some ms) = refl

split : (look : Bytes → Option Measure) (packed : Bool) (sofar : Measure) (fields : List the_type.Type) (i : ℕ) (field : the_type.Type) → i < length fields → field ≡ get_or fields i field
    → with_more look packed sofar fields i ≡ option_map (with_all packed sofar) (joined (tree_measured look (type_in (type_view field))) (all_measured look (types_in (types (map type_view (drop (i + 1) fields))))))
split look packed sofar fields i field h e =
    ap (λ ts. option_map (with_all packed sofar) (all_measured look (types_in (types (map type_view ts))))) (drop_more fields i field h)
    ∙ ap (λ t. option_map (with_all packed sofar) (joined (tree_measured look (type_in (type_view t))) (all_measured look (types_in (types (map type_view (drop (i + 1) fields))))))) (sym e)

-- one field more
pub field_next : (look : Bytes → Option Measure) (packed : Bool) (sofar : Measure) (fields : List the_type.Type) (i : ℕ) (field : the_type.Type) (measure : Measure) → i < length fields → field ≡ get_or fields i field
    → tree_measured look (type_in (type_view field)) ≡ Some measure → with_more look packed (with_field packed sofar measure) fields (i + 1) ≡ with_more look packed sofar fields i
field_next look packed sofar fields i field measure h e found =
    let rest = all_measured look (types_in (types (map type_view (drop (i + 1) fields)))) in
    sym (split look packed sofar fields i field h e ∙ ap (λ o. option_map (with_all packed sofar) (joined o rest)) found ∙ join_next packed sofar measure rest)

-- a field without a measure
pub field_none : (look : Bytes → Option Measure) (packed : Bool) (sofar : Measure) (fields : List the_type.Type) (i : ℕ) (field : the_type.Type) → i < length fields → field ≡ get_or fields i field
    → tree_measured look (type_in (type_view field)) ≡ None → with_more look packed sofar fields i ≡ None
field_none look packed sofar fields i field h e found =
    let rest = all_measured look (types_in (types (map type_view (drop (i + 1) fields)))) in
    split look packed sofar fields i field h e ∙ ap (λ o. option_map (with_all packed sofar) (joined o rest)) found

-- no field more
pub fields_end : (look : Bytes → Option Measure) (packed : Bool) (sofar : Measure) (fields : List the_type.Type) (i : ℕ) → length fields ≤ i → with_more look packed sofar fields i ≡ Some (closed sofar)
fields_end look packed sofar fields i h = ap (λ ts. option_map (with_all packed sofar) (all_measured look (types_in (types (map type_view ts))))) (drop_all i fields h)

-- a length that was cut gives the same measure
cut_product : (n s : ℕ) → min (2 ^ 40 + 1) (min n (2 ^ 64 - 1) * s) ≡ min (2 ^ 40 + 1) (n * s)
cut_product n zero = ap (min (2 ^ 40 + 1)) (mul-zero (min n (2 ^ 64 - 1)) ∙ sym (mul-zero n))
cut_product n (suc s) = by (nat_le n (2 ^ 64 - 1)) refl
  where
    large : (k : ℕ) → 2 ^ 40 + 1 ≤ k → 2 ^ 40 + 1 ≤ k * suc s
    large k h = rw mul-suc (omega (arith, h))

    by : (b : Bool) → nat_le n (2 ^ 64 - 1) ≡ b → min (2 ^ 40 + 1) (min n (2 ^ 64 - 1) * suc s) ≡ min (2 ^ 40 + 1) (n * suc s)
    by true e = let h = leb-true n (2 ^ 64 - 1) e in let same : min n (2 ^ 64 - 1) ≡ n = omega (arith, h) in ap (λ k. min (2 ^ 40 + 1) (k * suc s)) same
    by false e =
        let h = leb-false n (2 ^ 64 - 1) e in
        let same : min n (2 ^ 64 - 1) ≡ 2 ^ 64 - 1 = omega (arith, h) in
        let one = large n (omega (arith, h)) in
        let other = large (2 ^ 64 - 1) (omega arith) in
        ap (λ k. min (2 ^ 40 + 1) (k * suc s)) same ∙ capped_both ((2 ^ 64 - 1) * suc s) (n * suc s) other one
      where
        capped_both : (a b : ℕ) → 2 ^ 40 + 1 ≤ a → 2 ^ 40 + 1 ≤ b → min (2 ^ 40 + 1) a ≡ min (2 ^ 40 + 1) b
        capped_both a b h k = omega (arith, h, k)

abbrev sized : ℕ → Layout → Layout
sized n l = record { size = capped (n * l.size); align = l.align; leaves = capped (n * l.leaves) }

cut_sizes : (n : ℕ) (o : Option Layout) → option_map (sized (array_length n)) o ≡ option_map (sized n) o
cut_sizes n None = refl
cut_sizes n (Some l) = let same : sized (array_length n) l ≡ sized n l = λ j. record { size = cut_product n l.size j; align = l.align; leaves = cut_product n l.leaves j } in ap Some same

pub cut_length : (n : ℕ) (part : Measure) → array_measure (array_length n) part ≡ array_measure n part
cut_length n part = λ j. record { nesting = capped_nesting (part.nesting + 1); parts = capped_parts (part.parts + 1); layout = cut_sizes n part.layout j }
