-- The block of a body, behind what was read so far.
use Rattle.std.proofs.Common.{◌≡◌, ℕ, zero, suc, Bool, true, false, List, [], ◌∷◌, length, map, zip, drop, slice_get, Some, refl, sym, ap, subst, ◌∙◌}
use Rattle.std.proofs.lemmas.List.{length-map}
use Rattle.type_table.specs.Types.{trees}
use Rattle.module_arena.specs.declared.entry.Body as the_body
use Rattle.module_arena.specs.declared.entry.Function as the_function
use Rattle.module_arena.specs.declared.entry.LocalName as the_local
use Rattle.module_arena.specs.declared.entry.Parameter as the_parameter
use Rattle.module_arena.specs.Known.{KnowsBody}
use Rattle.module_arena.specs.Lists.{Lists}
use Rattle.module_arena.specs.Module as m
use Rattle.module_arena.specs.View.{body_view, constants_of, local_view, parameter_view}
use Rattle.record_table.specs.Bodies.{Begun, body, labels}
use Rattle.record_table.specs.Faults.{Records, a_block}
use Rattle.record_table.specs.Fields.{Numbering}
use Rattle.record_table.specs.Records as records
use Rattle.record_table.specs.Records.{first_due, give_body, parameters_of, types_of, with_body}
use Rattle.type_read.specs.declared.arena.counts.LocalCounts.{LocalCounts}
use Rattle.type_read.specs.declared.arena.module_reader.ModuleReader.{ModuleReader}
use Rattle.type_read.specs.Arena.Growing.{Growing}
use Rattle.type_read.specs.Arena.Numbered.{Numbers}
use Rattle.body_read.specs.Operands.Found.{Always}
use Rattle.body_read.specs.Ahead.Ahead.{AreCounts, IsAhead}
use Rattle.body_read.specs.declared.ahead.ahead.BodyAhead.{BodyAhead}
use Rattle.body_read.specs.Whole.{NumbersOutside}
use Rattle.bitcode_read.specs.Ahead.Bodies.{Foresees}
use Rattle.bitcode_read.specs.declared.sofar.Sofar.{Sofar}
use Rattle.bitcode_read.specs.Sofar.{IsDefined, IsDue, IsNextCounts, counts_due, head_of, parameter_names}
use Rattle.bitcode_read.proofs.BodyNames.{called_long, called_names, parameters_again}

-- ---- lists

drop_first : {A : Type 0} (xs : List A) (n : ℕ) (y : A) (ys : List A) → drop n xs ≡ y ∷ ys → (slice_get xs n ≡ Some y) × (drop (suc n) xs ≡ ys)
drop_first [] zero y ys e = absurd (cc)
drop_first [] (suc n) y ys e = absurd (cc)
drop_first (x ∷ xs) zero y ys e = (ap (λ z. Some z) (head e), tail e)
  where
    head : x ∷ xs ≡ y ∷ ys → x ≡ y
    head e = cc

    tail : x ∷ xs ≡ y ∷ ys → xs ≡ ys
    tail e = cc
drop_first (x ∷ xs) (suc n) y ys e = drop_first xs n y ys e

-- the first whose body is due is the first of those that are counted
pub first_counts : (rs : List (Bool × m.Function)) (h : m.Function) (read : Begun) → first_due rs ≡ Some h → counts_due rs ≡ length h.parameters ∷ counts_due (give_body read rs)
first_counts [] h read e = absurd (cc)
first_counts ((true, f) ∷ rs) h read e = ap (λ (g : m.Function). length g.parameters ∷ counts_due rs) (same e)
  where
    same : Some f ≡ Some h → f ≡ h
    same e = cc
first_counts ((false, f) ∷ rs) h read e = first_counts rs h read e

-- ---- what is known ahead of the body

-- the next of what is known ahead
pub record IsNextAhead (b : Sofar) (s : records.Sofar) (h : m.Function) (inside behind : Records) : Type 0 where
  pub x : BodyAhead
  pub xs : List BodyAhead
  pub rest : drop (length b.bodies.items) b.ahead.items ≡ x ∷ xs
  pub there : slice_get b.ahead.items (length b.bodies.items) ≡ Some x
  pub behind_is : drop (suc (length b.bodies.items)) b.ahead.items ≡ xs
  pub ahead : IsAhead s.texts s.k (length h.parameters) inside x
  pub foresees : (read : Begun) → Foresees s.texts s.k (length s.k.types) (counts_due (give_body read s.functions)) xs behind

pub next_ahead : (b : Sofar) (s : records.Sofar) (h : m.Function) (inside behind : Records) (read : Begun) → first_due s.functions ≡ Some h
    → Foresees s.texts s.k (length s.k.types) (counts_due s.functions) (drop (length b.bodies.items) b.ahead.items) (a_block 12 inside behind) → IsNextAhead b s h inside behind
next_ahead b s h inside behind read first f = by (drop (length b.bodies.items) b.ahead.items) refl (subst (λ due. Foresees s.texts s.k (length s.k.types) due (drop (length b.bodies.items) b.ahead.items) (a_block 12 inside behind)) (first_counts s.functions h read first) f)
  where
    counts_same : (one other : Begun) (rs : List (Bool × m.Function)) → counts_due (give_body one rs) ≡ counts_due (give_body other rs)
    counts_same one other [] = refl
    counts_same one other ((true, g) ∷ rs) = refl
    counts_same one other ((false, g) ∷ rs) = counts_same one other rs

    by : (l : List BodyAhead) → drop (length b.bodies.items) b.ahead.items ≡ l → Foresees s.texts s.k (length s.k.types) (length h.parameters ∷ counts_due (give_body read s.functions)) l (a_block 12 inside behind) → IsNextAhead b s h inside behind
    by [] e f = absurd f
    by (x ∷ xs) e f =
        let d = drop_first b.ahead.items (length b.bodies.items) x xs e in
        record { x = x; xs = xs; rest = e; there = d.0; behind_is = d.1; ahead = f.0; foresees = λ other. subst (λ due. Foresees s.texts s.k (length s.k.types) due xs behind) (counts_same read other s.functions) f.1 }

-- ---- outside the body

-- with so many values and blocks indices stand for these inside
pub numbers_outside : (old : ModuleReader) (counts : LocalCounts) (k : Numbering) → Numbers old k → NumbersOutside (record old { locals = counts }) k
numbers_outside old counts k h = λ values blocks many few. record { types = h.types; structs_are = h.structs_are; targets = h.targets; globals = h.globals; values = many; blocks = few }

pub counts_inside : (b : Sofar) (s : records.Sofar) (h : m.Function) (inside behind : Records) (n : IsNextAhead b s h inside behind) (counts : LocalCounts) (parameters : ℕ) → IsNextCounts b counts → parameters ≡ length h.parameters
    → AreCounts counts (labels s.texts s.k parameters inside)
counts_inside b s h inside behind n counts parameters is same =
    subst (λ (c : LocalCounts). AreCounts c (labels s.texts s.k parameters inside)) (sym (is n.x n.there)) (subst (λ p. AreCounts n.x.counts (labels s.texts s.k p inside)) (sym same) n.ahead.counts)

-- ---- the function with its body

module _ (base : Lists) (g : Growing) (D : Type 0) (names : List the_local.LocalName) (f : the_function.Function) (h : m.Function) (due : IsDue base names f (true, h)) where
  pub due_long : length f.parameters ≡ length h.parameters
  due_long =
      sym (length-map f.parameters (parameter_view (trees base.table)))
      ∙ (sym (length-map (head_of base f).parameters (λ (p : m.Parameter). p.ty)) ∙ (ap length due.typed ∙ length-map h.parameters (λ (p : m.Parameter). p.ty)))

  module _ (read : Begun) (called : map local_view names ≡ read.parameters) (many : length read.parameters ≡ length h.parameters) where
    types_long : length due.types ≡ length names
    types_long =
        let a : length due.types ≡ length f.parameters = sym (called_long names due.types 0) ∙ sym (ap length due.called) in
        let n : length names ≡ length read.parameters = sym (length-map names local_view) ∙ ap length called in
        a ∙ (due_long ∙ (sym many ∙ sym n))

    map_two : (ps : List the_parameter.Parameter) → map (λ (p : the_parameter.Parameter). local_view p.name) ps ≡ map local_view (map (λ (p : the_parameter.Parameter). p.name) ps)
    map_two [] = refl
    map_two (p ∷ ps) = ap (λ l. local_view p.name ∷ l) (map_two ps)

    map_viewed : (ps : List the_parameter.Parameter) → map (λ (p : m.Parameter). p.name) (map (parameter_view (trees base.table)) ps) ≡ map (λ (p : the_parameter.Parameter). local_view p.name) ps
    map_viewed [] = refl
    map_viewed (p ∷ ps) = ap (λ l. local_view p.name ∷ l) (map_viewed ps)

    pub names_are : parameter_names f ≡ read.parameters
    names_are =
        map_two f.parameters
        ∙ (ap (λ (ps : List the_parameter.Parameter). map local_view (map (λ (p : the_parameter.Parameter). p.name) ps)) due.called ∙ (ap (map local_view) (called_names names due.types types_long) ∙ called))

    parameters_are : (head_of base f).parameters ≡ parameters_of (zip (types_of h) read.parameters)
    parameters_are =
        parameters_again (head_of base f).parameters
        ∙ (λ j. parameters_of (zip (due.typed j) ((map_viewed f.parameters ∙ names_are) j)))

    pub given : (body : the_body.Body) → Always g (λ a. KnowsBody (length a.table.types) (length a.constants) (length f.parameters) body)
        → (D → Always g (λ a. body_view (trees a.table) (constants_of a) read.parameters body ≡ read.blocks)) → IsDefined base g D f body (false, with_body read h)
    given body known blocks = record {
      not_due = refl;
      known = known;
      is = λ all. λ later on.
          λ j. record (due.other j) {
            parameters = parameters_are j;
            body = Some ((ap (λ ns. body_view (trees later.arena.table) (constants_of later.arena) ns body) names_are ∙ blocks all later on) j);
          };
    }
