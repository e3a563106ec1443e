-- In front of the types: the version and the texts of the module.
use Rattle.std.proofs.Common.{◌≡◌, ◌⊎◌, ◌<◌, ℕ, suc, Bool, true, false, not, ◌&&◌, cond, List, [], ◌∷◌, Option, Some, None, nat_eq, nat_lt, nat_le, inl, inr, refl, sym, ap, subst, ◌∙◌, arith}
use Rattle.std.specs.Prelude.{Ok, Err}
use Rattle.std.proofs.lemmas.Bool.{and_parts, eqb-true, ltb-true}
use Rattle.module_arena.specs.declared.entry.LocalName as the_local
use Rattle.module_arena.specs.Lists.{Lists}
use Rattle.module_arena.specs.Module.{Bytes}
use Rattle.record_table.specs.Faults.{Answer, BadVersion, Records, a_record, also}
use Rattle.record_table.specs.Fields.{Numbering, Texts}
use Rattle.record_table.specs.Records as records
use Rattle.record_table.specs.Layout.{judged}
use Rattle.record_table.specs.Records.{is_version, may_follow, record_at_place}
use Rattle.record_table.specs.TypeRecords.{names_in}
use Rattle.record_table.specs.Walk.{going}
use Rattle.record_read.specs.Faults.{Answers}
use Rattle.record_read.specs.Reader.{Reader}
use Rattle.type_read.specs.declared.arena.module_reader.ModuleReader.{ModuleReader}
use Rattle.body_read.specs.declared.ahead.ahead.BodyAhead.{BodyAhead}
use Rattle.type_read.specs.Listed.{AreGathered}
use Rattle.bitcode_read.specs.Head.Ahead.{first_types}
use Rattle.bitcode_read.specs.declared.head.ahead.ModuleAhead.{ModuleAhead}
use Rattle.bitcode_read.specs.Ahead.Bodies.{Foresees}
use Rattle.bitcode_read.specs.Ahead.Entries.{Declares}
use Rattle.record_read.specs.Order.Order.{IsBehindRecord, StandsBehind}
use Rattle.record_law.proofs.OnFormed.Sofar.{is_placed}
use Rattle.bitcode_read.specs.declared.sofar.Sofar.{Sofar}
use Rattle.bitcode_read.specs.Sofar.{IsEarly, IsLate, IsPast, IsSofar}

-- what stands in front of the types stands behind nothing that stands behind them
early_version : (last : ℕ) → may_follow last 1 ≡ true → last < 5
early_version last may = let none : last ≡ 0 = eqb-true last 0 may in omega arith

early_text : (last place : ℕ) → place < 5 → (nat_le 1 last && nat_lt last place) ≡ true → last < 5
early_text last place low may = let less = ltb-true last place (and_parts (nat_le 1 last) (nat_lt last place) may).1 in omega (arith, less, low)

-- what is kept means something else too
pub answers_on : {A B C : Type 0} (means : B → A → Type 0) (other : C → A → Type 0) (a : Answer A) (kept : B) (now : C) → Answers means a (Ok kept) → ((t : A) → a ≡ Ok t → means kept t → other now t) → Answers other a (Ok now)
answers_on means other (Ok t) kept now h on = on t refl h
answers_on means other (Err told) kept now h on = absurd h

-- a record in front that stands behind what was read so far
pub stands_behind : (texts : Texts) (all : Records) (known : ModuleAhead) (m : ModuleReader) (b : Sofar) (s : records.Sofar) (rest : Records) (operands : List ℕ) → IsSofar texts all known m b s rest → m.reader.walk ≡ going operands None → m.reader.at ≡ suc s.at
    → StandsBehind texts b.last m.reader s operands
stands_behind texts all known m b s rest operands h walk at = record { texts_are = h.texts_are; last_is = h.last; walk = walk; at = at }

pub past : (m : ModuleReader) (r : Reader) (s t : records.Sofar) → IsBehindRecord m.reader r → m.reader.at ≡ suc s.at → t.at ≡ suc s.at → IsPast m (record m { reader = r }) t
past m r s t h at is = record { spent = h.spent; left = h.left; at = h.at ∙ (at ∙ sym is) }

-- what is left declares and foresees the same
abbrev pub IsSkipped : Texts → Records → Records → Type 0
IsSkipped texts rest behind =
    ((types : ℕ) (final a : Lists) (names : List (List the_local.LocalName)) → Declares texts types final names a rest → Declares texts types final names a behind)
    × ((k : Numbering) (types : ℕ) (bodies : List BodyAhead) → Foresees texts k types [] bodies rest → Foresees texts k types [] bodies behind)
    × (first_types rest ≡ first_types behind)

module _ (texts : Texts) (all : Records) (known : ModuleAhead) (m : ModuleReader) (r : Reader) (b b2 : Sofar) (s : records.Sofar) (rest behind : Records) (h : IsSofar texts all known m b s rest) (skips : IsSkipped texts rest behind) where
  early_part : (place at : ℕ) (source layout triple : Option Bytes) → s.last < 5 → place < 5 → place ≡ b2.last → b2.source ≡ source → b2.layout ≡ layout → b2.triple ≡ triple
      → IsSofar texts all known (record m { reader = r }) (record b { last = b2.last; source = b2.source; layout = b2.layout; triple = b2.triple }) (record s { at = at; last = place; source = source; layout = layout; triple = triple }) behind
  early_part place at source layout triple before low last s_is l_is t_is = record {
    texts_are = h.texts_are;
    last = last;
    source = s_is;
    layout = l_is;
    triple = t_is;
    numbers = record { types = h.numbers.types; structs_are = h.numbers.structs_are; targets = h.numbers.targets; globals = h.numbers.globals; values = h.numbers.values; blocks = h.numbers.blocks };
    counted = h.counted;
    outside = h.outside;
    good = record { variables = h.good.variables; functions = h.good.functions; aliases = h.good.aliases };
    part = by h.part;
  }
    where
      by : IsEarly texts all known m b s rest ⊎ IsLate m b s rest
          → IsEarly texts all known (record m { reader = r }) (record b { last = b2.last; source = b2.source; layout = b2.layout; triple = b2.triple }) (record s { at = at; last = place; source = source; layout = layout; triple = triple }) behind
          ⊎ IsLate (record m { reader = r }) (record b { last = b2.last; source = b2.source; layout = b2.layout; triple = b2.triple }) (record s { at = at; last = place; source = source; layout = layout; triple = triple }) behind
      by (inr l) = let late = l.late in absurd (omega (arith, late, before))
      by (inl e) = inl (record {
        early = low;
        numbers = e.numbers;
        no_variables = e.no_variables;
        no_functions = e.no_functions;
        no_aliases = e.no_aliases;
        no_initialisers = e.no_initialisers;
        none_defined = e.none_defined;
        no_targets = e.no_targets;
        no_bodies = e.no_bodies;
        over = record { arena = e.over.arena; types = e.over.types; pointer = e.over.pointer; bit = e.over.bit };
        gathered = subst (λ rs. AreGathered known.named known.structs (names_in texts rs)) skips.2 e.gathered;
        declares = λ types final a names d. skips.0 types final a names (e.declares types final a names d);
        foresees = λ k types bodies f. skips.1 k types bodies (e.foresees k types bodies f);
      })

  -- one of the module's parts in front of the types is read
  part_read : (place : ℕ) (source layout triple : Option Bytes) (t : records.Sofar) → s.last < 5 → place < 5 → place ≡ b2.last → b2.source ≡ source → b2.layout ≡ layout → b2.triple ≡ triple
      → b2 ≡ record b { last = b2.last; source = b2.source; layout = b2.layout; triple = b2.triple } → t ≡ record s { at = suc s.at; last = place; source = source; layout = layout; triple = triple }
      → IsBehindRecord m.reader r → m.reader.at ≡ suc s.at → IsSofar texts all known (record m { reader = r }) b2 t behind × IsPast m (record m { reader = r }) t
  part_read place source layout triple t before low last s_is l_is t_is same is gone at =
      let made : records.Sofar = record s { at = suc s.at; last = place; source = source; layout = layout; triple = triple } in
      subst (λ (u : records.Sofar). IsSofar texts all known (record m { reader = r }) b2 u behind × IsPast m (record m { reader = r }) u) (sym is)
      (subst (λ (c : Sofar). IsSofar texts all known (record m { reader = r }) c made behind) (sym same) (early_part place (suc s.at) source layout triple before low last s_is l_is t_is), past m r s made gone at refl)

-- what is not named is as before
all_but_last : (b b2 : Sofar) → b2 ≡ record b { last = b2.last } → b2 ≡ record b { last = b2.last; source = b2.source; layout = b2.layout; triple = b2.triple }
all_but_last b b2 same =
    same ∙ (λ j. record b { last = b2.last; source = sym (ap (λ (x : Sofar). x.source) same) j; layout = sym (ap (λ (x : Sofar). x.layout) same) j; triple = sym (ap (λ (x : Sofar). x.triple) same) j })

all_but_source : (b b2 : Sofar) → b2 ≡ record b { last = b2.last; source = b2.source } → b2 ≡ record b { last = b2.last; source = b2.source; layout = b2.layout; triple = b2.triple }
all_but_source b b2 same = same ∙ (λ j. record b { last = b2.last; source = b2.source; layout = sym (ap (λ (x : Sofar). x.layout) same) j; triple = sym (ap (λ (x : Sofar). x.triple) same) j })

all_but_layout : (b b2 : Sofar) → b2 ≡ record b { last = b2.last; layout = b2.layout } → b2 ≡ record b { last = b2.last; source = b2.source; layout = b2.layout; triple = b2.triple }
all_but_layout b b2 same = same ∙ (λ j. record b { last = b2.last; source = sym (ap (λ (x : Sofar). x.source) same) j; layout = b2.layout; triple = sym (ap (λ (x : Sofar). x.triple) same) j })

all_but_triple : (b b2 : Sofar) → b2 ≡ record b { last = b2.last; triple = b2.triple } → b2 ≡ record b { last = b2.last; source = b2.source; layout = b2.layout; triple = b2.triple }
all_but_triple b b2 same = same ∙ (λ j. record b { last = b2.last; source = sym (ap (λ (x : Sofar). x.source) same) j; layout = sym (ap (λ (x : Sofar). x.layout) same) j; triple = b2.triple })

module _ (texts : Texts) (all : Records) (known : ModuleAhead) (m : ModuleReader) (r : Reader) (b b2 : Sofar) (s : records.Sofar) (operands : List ℕ) (behind : Records) (at : m.reader.at ≡ suc s.at) where
  pub version_answers : IsSofar texts all known m b s (a_record 1 operands behind) → IsBehindRecord m.reader r → 1 ≡ b2.last → b2 ≡ record b { last = b2.last }
      → Answers {A = records.Sofar} {B = Unit {0}} (λ done t. t ≡ record s { at = suc s.at; last = 1 }) (records.version_record s operands) (Ok tt)
      → Answers {A = records.Sofar} {B = Unit {0}} (λ done t. IsSofar texts all known (record m { reader = r }) b2 t behind × IsPast m (record m { reader = r }) t) (records.record_in s 1 operands) (Ok tt)
  version_answers h gone last same told =
      answers_on (λ done t. t ≡ record s { at = suc s.at; last = 1 }) (λ done t. IsSofar texts all known (record m { reader = r }) b2 t behind × IsPast m (record m { reader = r }) t) (records.version_record s operands) tt tt told
      (λ t e is. part_read texts all known m r b b2 s (a_record 1 operands behind) behind h ((λ types final a names d. d), (λ k types bodies f. f), refl) 1 s.source s.layout s.triple t (version_first operands t e) (omega arith) last
      (ap (λ (x : Sofar). x.source) same ∙ h.source) (ap (λ (x : Sofar). x.layout) same ∙ h.layout) (ap (λ (x : Sofar). x.triple) same ∙ h.triple) (all_but_last b b2 same) is gone at)
    where
      by_placed : (broken : Option ℕ) (t : records.Sofar) → record_at_place s 1 broken s ≡ Ok t → s.last < 5
      by_placed broken t e = early_version s.last (is_placed s 1 broken s t e).may

      version_first : (operands : List ℕ) (t : records.Sofar) → records.version_record s operands ≡ Ok t → s.last < 5
      version_first [] t e = by_placed (judged records.version []).1 t e
      version_first (n ∷ []) t e = by (nat_eq s.last 0 && not (is_version n)) e
        where
          by : (c : Bool) → cond {A = Answer records.Sofar} c (Err (BadVersion n)) (record_at_place s 1 (also 5 (nat_eq n s.texts.version) None) s) ≡ Ok t → s.last < 5
          by true e = absurd (cc)
          by false e = by_placed (also 5 (nat_eq n s.texts.version) None) t e
      version_first (n ∷ k ∷ operands) t e = by_placed (judged records.version (n ∷ k ∷ operands)).1 t e

  -- a text of the module
  text_first : (place : ℕ) (value : Option Bytes → records.Sofar) (t : records.Sofar) → place < 5 → may_follow s.last place ≡ (nat_le 1 s.last && nat_lt s.last place) → records.text_record s place operands value ≡ Ok t → s.last < 5
  text_first place value t low is e = early_text s.last place low (sym is ∙ (is_placed s place (judged s.texts.last operands).1 (value (Some (judged s.texts.last operands).0)) t e).may)

  pub source_answers : (text : Option Bytes) → IsSofar texts all known m b s (a_record 2 operands behind) → IsBehindRecord m.reader r → 2 ≡ b2.last → b2.source ≡ text → b2 ≡ record b { last = b2.last; source = b2.source }
      → Answers {A = records.Sofar} {B = Option Bytes} (λ text t. t ≡ record s { source = text; at = suc s.at; last = 2 }) (records.text_record s 2 operands (λ x. record s { source = x })) (Ok text)
      → Answers {A = records.Sofar} {B = Unit {0}} (λ done t. IsSofar texts all known (record m { reader = r }) b2 t behind × IsPast m (record m { reader = r }) t) (records.record_in s 2 operands) (Ok tt)
  source_answers text h gone last held same told =
      answers_on (λ text t. t ≡ record s { source = text; at = suc s.at; last = 2 }) (λ done t. IsSofar texts all known (record m { reader = r }) b2 t behind × IsPast m (record m { reader = r }) t) (records.text_record s 2 operands (λ x. record s { source = x })) text tt told
      (λ t e is. part_read texts all known m r b b2 s (a_record 2 operands behind) behind h ((λ types final a names d. d), (λ k types bodies f. f), refl) 2 text s.layout s.triple t (text_first 2 (λ x. record s { source = x }) t (omega arith) refl e) (omega arith) last
      held (ap (λ (x : Sofar). x.layout) same ∙ h.layout) (ap (λ (x : Sofar). x.triple) same ∙ h.triple) (all_but_source b b2 same) is gone at)

  pub layout_answers : (text : Option Bytes) → IsSofar texts all known m b s (a_record 3 operands behind) → IsBehindRecord m.reader r → 3 ≡ b2.last → b2.layout ≡ text → b2 ≡ record b { last = b2.last; layout = b2.layout }
      → Answers {A = records.Sofar} {B = Option Bytes} (λ text t. t ≡ record s { layout = text; at = suc s.at; last = 3 }) (records.text_record s 3 operands (λ x. record s { layout = x })) (Ok text)
      → Answers {A = records.Sofar} {B = Unit {0}} (λ done t. IsSofar texts all known (record m { reader = r }) b2 t behind × IsPast m (record m { reader = r }) t) (records.record_in s 3 operands) (Ok tt)
  layout_answers text h gone last held same told =
      answers_on (λ text t. t ≡ record s { layout = text; at = suc s.at; last = 3 }) (λ done t. IsSofar texts all known (record m { reader = r }) b2 t behind × IsPast m (record m { reader = r }) t) (records.text_record s 3 operands (λ x. record s { layout = x })) text tt told
      (λ t e is. part_read texts all known m r b b2 s (a_record 3 operands behind) behind h ((λ types final a names d. d), (λ k types bodies f. f), refl) 3 s.source text s.triple t (text_first 3 (λ x. record s { layout = x }) t (omega arith) refl e) (omega arith) last
      (ap (λ (x : Sofar). x.source) same ∙ h.source) held (ap (λ (x : Sofar). x.triple) same ∙ h.triple) (all_but_layout b b2 same) is gone at)

  pub triple_answers : (text : Option Bytes) → IsSofar texts all known m b s (a_record 4 operands behind) → IsBehindRecord m.reader r → 4 ≡ b2.last → b2.triple ≡ text → b2 ≡ record b { last = b2.last; triple = b2.triple }
      → Answers {A = records.Sofar} {B = Option Bytes} (λ text t. t ≡ record s { triple = text; at = suc s.at; last = 4 }) (records.text_record s 4 operands (λ x. record s { triple = x })) (Ok text)
      → Answers {A = records.Sofar} {B = Unit {0}} (λ done t. IsSofar texts all known (record m { reader = r }) b2 t behind × IsPast m (record m { reader = r }) t) (records.record_in s 4 operands) (Ok tt)
  triple_answers text h gone last held same told =
      answers_on (λ text t. t ≡ record s { triple = text; at = suc s.at; last = 4 }) (λ done t. IsSofar texts all known (record m { reader = r }) b2 t behind × IsPast m (record m { reader = r }) t) (records.text_record s 4 operands (λ x. record s { triple = x })) text tt told
      (λ t e is. part_read texts all known m r b b2 s (a_record 4 operands behind) behind h ((λ types final a names d. d), (λ k types bodies f. f), refl) 4 s.source s.layout text t (text_first 4 (λ x. record s { triple = x }) t (omega arith) refl e) (omega arith) last
      (ap (λ (x : Sofar). x.source) same ∙ h.source) (ap (λ (x : Sofar). x.layout) same ∙ h.layout) held (all_but_triple b b2 same) is gone at)
