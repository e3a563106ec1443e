-- What the records of entries stand for, by what they begin with.
use Rattle.std.proofs.Common.{◌≡◌, ℕ, zero, suc, Bool, true, false, List, [], ◌∷◌, map, zip, length, Option, Some, None, refl, sym, ap, ◌∙◌}
use Rattle.std.specs.Option.{option_map}
use Rattle.type_table.specs.Tree.{Tree}
use Rattle.type_table.specs.Types.{trees}
use Rattle.module_arena.specs.declared.entry.GlobalId.{GlobalId}
use Rattle.module_arena.specs.declared.entry.LocalName as the_local
use Rattle.module_arena.specs.Lists.{Lists, name_at}
use Rattle.module_arena.specs.Module.{Constant, FunctionType, LocalName, Parameter, Function}
use Rattle.module_arena.specs.View.{alias_type_view, alias_view, constant_at, parameter_view, type_at, variable_view}
use Rattle.record_table.specs.Bodies.{numbers_from}
use Rattle.record_table.specs.Fields.{Numbering, Texts, ty}
use Rattle.record_table.specs.Fields as fields
use Rattle.record_table.specs.Layout.{counted, either_by, judged, many, ◌&◌}
use Rattle.record_table.specs.Records as records
use Rattle.record_table.specs.Records.{alias_type_of, parameters_of}
use Rattle.record_table.specs.TypeRecords.{earlier}
use Rattle.record_table.specs.Walk.{Walk, going, stopped, next}
use Rattle.bitcode_read.specs.Head.Fronts.{alias_front, function_front, function_type, kept_alias_type, variable_front}
use Rattle.bitcode_read.specs.Ahead.Entries.{alias_entry, front_of, function_entry, parameters_called, variable_entry}
use Rattle.bitcode_read.specs.Sofar.{IsDeclaration, IsDue}

-- ---- types by their indices

module _ (k : Numbering) where
  abbrev count : ℕ
  count = length k.types

  pub many_walk : (n : ℕ) (v : Walk) → (many (earlier count).read n v).1 ≡ (many (ty k).read n v).1
  unfolding many
  many_walk zero v = refl
  many_walk (suc n) (stopped broken) = refl
  many_walk (suc n) (going rest broken) = many_walk n ((ty k).read (going rest broken)).1

  pub many_value : (n : ℕ) (v : Walk) → (many (ty k).read n v).0 ≡ map (type_at k.types) (many (earlier count).read n v).0
  unfolding many
  many_value zero v = refl
  many_value (suc n) (stopped broken) = refl
  many_value (suc n) (going rest broken) = ap (λ ts. type_at k.types (next (going rest broken)).0 ∷ ts) (many_value n ((ty k).read (going rest broken)).1)

  alias_type_by : (n : ℕ) (v : Walk) → alias_type_view k.types (kept_alias_type (either_by (earlier count) (function_type count) n v).0) ≡ alias_type_of (either_by (ty k) (ty k & fields.truth & counted (ty k)) n v).0
  unfolding either_by
  alias_type_by zero v = refl
  alias_type_by (suc zero) v =
      let x = (earlier count).read v in
      let y = fields.truth.read x.1 in
      let c = next y.1 in
      ap (λ (ts : List Tree). FunctionType (record { returns = type_at k.types x.0; parameters = ts; variadic = y.0 })) (sym (many_value c.0 c.1))
  alias_type_by (suc (suc n)) v = refl

  -- what an alias says of its target
  pub alias_type_value : (v : Walk) → alias_type_view k.types (kept_alias_type (either_by (earlier count) (function_type count) (next v).0 (next v).1).0) ≡ alias_type_of (either_by (ty k) (ty k & fields.truth & counted (ty k)) (next v).0 (next v).1).0
  alias_type_value v = alias_type_by (next v).0 (next v).1

-- ---- variables

pub variable_is : (base : Lists) (cs : List Constant) (t : Texts) (k : Numbering) (operands : List ℕ) (o : Option ℕ) → k.types ≡ trees base.table → option_map (constant_at cs) o ≡ (judged (records.variable t k) operands).0.initialiser
    → variable_view (trees base.table) cs (record (variable_entry (front_of (variable_front t (length k.types)) operands).0) { initialiser = o }) ≡ (judged (records.variable t k) operands).0
variable_is base cs t k operands o types held =
    let x = (front_of (variable_front t (length k.types)) operands).0 in
    λ j. record { name = x.0; linkage = x.1.0; constant = x.1.1.0; ty = type_at (sym types j) x.1.1.1.0; alignment = x.1.1.1.1; initialiser = held j }

-- ---- aliases

pub alias_is : (base : Lists) (t : Texts) (k : Numbering) (operands : List ℕ) (g : GlobalId) → k.types ≡ trees base.table → name_at base g ≡ (judged (records.alias t k) operands).0.target
    → alias_view (trees base.table) (name_at base) (record (alias_entry (front_of (alias_front t (length k.types)) operands).0) { target = Some g }) ≡ (judged (records.alias t k) operands).0
alias_is base t k operands g types named =
    let x = (front_of (alias_front t (length k.types)) operands).0 in
    let w = (fields.linkage.read ((fields.name t).read (going operands None)).1).1 in
    let typed : alias_type_view (trees base.table) (kept_alias_type x.1.1) ≡ (judged (records.alias t k) operands).0.ty =
    ap (λ (ts : List Tree). alias_type_view ts (kept_alias_type x.1.1)) (sym types) ∙ alias_type_value k w in
    λ j. record { name = x.0; linkage = x.1.0; ty = typed j; target = named j }

-- ---- functions

-- parameters that nothing calls are numbered
numbered : (ts : List Tree) (types : List ℕ) (place : ℕ) → map (parameter_view ts) (parameters_called [] place types) ≡ parameters_of (zip (map (type_at ts) types) (numbers_from place (length (map (type_at ts) types))))
unfolding numbers_from
numbered ts [] place = refl
numbered ts (t ∷ types) place = ap (λ (ps : List Parameter). record { ty = type_at ts t; name = LocalName.Numbered place } ∷ ps) (numbered ts types (suc place))

called_typed : (ts : List Tree) (names : List the_local.LocalName) (types : List ℕ) (place : ℕ) → map (λ (p : Parameter). p.ty) (map (parameter_view ts) (parameters_called names place types)) ≡ map (type_at ts) types
called_typed ts names [] place = refl
called_typed ts names (t ∷ types) place = ap (λ (xs : List Tree). type_at ts t ∷ xs) (called_typed ts names types (suc place))

zip_typed : (ts : List Tree) (place : ℕ) → map (λ (p : Parameter). p.ty) (parameters_of (zip ts (numbers_from place (length ts)))) ≡ ts
unfolding numbers_from
zip_typed [] place = refl
zip_typed (t ∷ ts) place = ap (λ (xs : List Tree). t ∷ xs) (zip_typed ts (suc place))

module _ (base : Lists) (t : Texts) (k : Numbering) (operands : List ℕ) (types : k.types ≡ trees base.table) where
  abbrev r : Bool × Function
  r = (judged (records.function t k) operands).0

  -- the walk in front of the parameters
  abbrev w : Walk
  w = (fields.truth.read ((earlier (length k.types)).read (fields.truth.read (fields.linkage.read ((fields.name t).read (going operands None)).1).1).1).1).1

  abbrev indices : List ℕ
  indices = (many (earlier (length k.types)).read (next w).0 (next w).1).0

  listed : (many (ty k).read (next w).0 (next w).1).0 ≡ map (type_at (trees base.table)) indices
  listed = many_value k (next w).0 (next w).1 ∙ ap (λ (ts : List Tree). map (type_at ts) indices) types

  pub parameters_long : length (records.types_of r.1) ≡ length indices
  parameters_long = ap length (zip_typed (many (ty k).read (next w).0 (next w).1).0 0) ∙ (ap length listed ∙ many_mapped indices)
    where
      many_mapped : (is : List ℕ) → length (map (type_at (trees base.table)) is) ≡ length is
      many_mapped [] = refl
      many_mapped (i ∷ is) = ap suc (many_mapped is)

  pub declaration_is : r.0 ≡ false → IsDeclaration base (function_entry [] (front_of (function_front t (length k.types)) operands).0) r
  declaration_is other = record {
    not_due = other;
    is = λ j. record {
      name = r.1.name;
      linkage = r.1.linkage;
      returns = type_at (sym types j) (front_of (function_front t (length k.types)) operands).0.1.1.1.0;
      parameters = (numbered (trees base.table) indices 0 ∙ ap (λ (ts : List Tree). parameters_of (zip ts (numbers_from 0 (length ts)))) (sym listed)) j;
      variadic = r.1.variadic;
      body = None;
    };
  }

  pub due_is : (names : List the_local.LocalName) → r.0 ≡ true → IsDue base names (function_entry names (front_of (function_front t (length k.types)) operands).0) r
  due_is names due = record {
    due = due;
    types = indices;
    called = refl;
    typed = called_typed (trees base.table) names indices 0 ∙ (sym listed ∙ sym (zip_typed (many (ty k).read (next w).0 (next w).1).0 0));
    other = λ j. record {
      name = r.1.name;
      linkage = r.1.linkage;
      returns = type_at (sym types j) (front_of (function_front t (length k.types)) operands).0.1.1.1.0;
      parameters = [];
      variadic = r.1.variadic;
      body = None;
    };
  }
