-- The module's block, entry by entry.
use Rattle.std.proofs.Common.{◌≡◌, ◌⊎◌, ◌<◌, ◌+◌, ℕ, suc, Bool, true, false, List, [], ◌∷◌, ◌++◌, length, take, inl, inr, refl, sym, ap, subst, ◌∙◌, arith}
use Rattle.std.specs.Prelude.{OnOk, Result, Ok, Err, None}
use Rattle.std.proofs.lemmas.List.{length-append}
use Rattle.std.proofs.lemmas.List.Elements.{All-nil}
use Rattle.bit_tree.specs.Pieces.{Piece, ended, flat}
use Rattle.type_table.specs.Types.{structs, trees}
use Rattle.module_arena.specs.Lists.{Lists}
use Rattle.record_table.specs.Faults.{Answer, ◌>>=◌, Records, a_block, a_record, no_more}
use Rattle.record_table.specs.Fields.{Texts}
use Rattle.record_table.specs.Records as records
use Rattle.record_table.specs.Records.{at_first, ended as ended_at, known_at_first, module_from, names_of}
use Rattle.record_table.specs.Walk.{going}
use Rattle.record_read.specs.declared.entry.NextEntry.TheVariants.{Block, Record, End}
use Rattle.record_read.specs.declared.fault.BitcodeFault.{BitcodeFault}
use Rattle.record_read.specs.Entries.{Gives, IsBefore, IsInBlock}
use Rattle.record_read.specs.Faults.{Answers}
use Rattle.record_read.specs.Reader.{Reader}
use Rattle.type_read.specs.Fields.{is_good}
use Rattle.type_read.specs.declared.arena.module_reader.ModuleReader.{ModuleReader}
use Rattle.type_read.specs.Arena.Numbered.{Numbers}
use Rattle.bitcode_read.specs.Head.Ahead.{AreCounted, IsAhead}
use Rattle.bitcode_read.specs.declared.head.ahead.ModuleAhead.{ModuleAhead}
use Rattle.bitcode_read.specs.declared.sofar.Sofar.{Sofar}
use Rattle.bitcode_read.specs.Sofar.{GoesOn, IsAtEnd, IsBegunOver, IsGoing, IsEarly, IsLate, IsOut, IsPast, IsSofar, MayBeTypes, ReadsBlock, ReadsPart, told_more}
use Rattle.bitcode_read.proofs.Opened.{meant_by, refused_in_front, refused_so}
use Rattle.bitcode_read.proofs.Types.{early_gathered}

-- another reader over the same arena
pub sofar_reader : (texts : Texts) (all : Records) (known : ModuleAhead) (m : ModuleReader) (r : Reader) (b : Sofar) (s : records.Sofar) (rest : Records) → IsSofar texts all known m b s rest → IsSofar texts all known (record m { reader = r }) b s rest
sofar_reader texts all known m r b s rest h = record {
  texts_are = h.texts_are;
  last = h.last;
  source = h.source;
  layout = h.layout;
  triple = h.triple;
  numbers = record { types = h.numbers.types; structs_are = h.numbers.structs_are; targets = h.numbers.targets; globals = h.numbers.globals; values = h.numbers.values; blocks = h.numbers.blocks };
  counted = h.counted;
  outside = h.outside;
  good = h.good;
  part = by h.part;
}
  where
    by : IsEarly texts all known m b s rest ⊎ IsLate m b s rest → IsEarly texts all known (record m { reader = r }) b s rest ⊎ IsLate (record m { reader = r }) b s rest
    by (inl e) = inl (record {
      early = e.early;
      numbers = e.numbers;
      no_variables = e.no_variables;
      no_functions = e.no_functions;
      no_aliases = e.no_aliases;
      no_initialisers = e.no_initialisers;
      none_defined = e.none_defined;
      no_targets = e.no_targets;
      no_bodies = e.no_bodies;
      over = e.over;
      gathered = e.gathered;
      declares = e.declares;
      foresees = e.foresees;
    })
    by (inr l) = inr (record {
      late = l.late;
      alone = l.alone;
      base = l.base;
      a = l.a;
      begun = l.begun;
      over = l.over;
      grows = l.grows;
      good = l.good;
      good_types = l.good_types;
      distinct = l.distinct;
      types = l.types;
      structs_are = l.structs_are;
      later = l.later;
      declares = l.declares;
      unset = l.unset;
      untargeted = l.untargeted;
      undefined = l.undefined;
      called = l.called;
      foresees = l.foresees;
      variables = l.variables;
      aliases = l.aliases;
      functions = l.functions;
    })

-- a record or block in front, with what is behind it
pub record IsRecord (rest : Records) (others : List Piece) (old new : Reader) (code : ℕ) : Type 0 where
  pub operands : List ℕ
  pub behind : Records
  pub is : rest ≡ a_record code operands behind
  pub walk : new.walk ≡ going operands None
  pub at : new.at ≡ suc old.at
  pub before : IsBefore new.left behind others

record_given : (rest : Records) (others : List Piece) (old new : Reader) (code : ℕ) → Gives rest old (Record code) new others → IsRecord rest others old new code
record_given no_more others old new code g = absurd g
record_given (a_block id inside behind) others old new code g = absurd g
record_given (a_record other operands behind) others old new code g =
    record { operands = operands; behind = behind; is = ap (λ c. a_record c operands behind) (sym g.0); walk = g.2; at = g.1; before = g.3 }

pub record IsBlock (rest : Records) (others : List Piece) (old new : Reader) (id : ℕ) : Type 0 where
  pub inside : Records
  pub behind : Records
  pub pieces : List Piece
  pub is : rest ≡ a_block id inside behind
  pub at : new.at ≡ old.at
  pub before : IsBefore new.left inside (ended ∷ pieces)
  pub later : IsBefore pieces behind others

block_given : (rest : Records) (others : List Piece) (old new : Reader) (id : ℕ) → Gives rest old (Block id) new others → IsBlock rest others old new id
block_given no_more others old new id g = absurd g
block_given (a_record code operands behind) others old new id g = absurd g
block_given (a_block other inside behind) others old new id g =
    record { inside = inside; behind = behind; pieces = g.2.pieces; is = ap (λ n. a_block n inside behind) (sym g.0); at = g.1; before = g.2.inside; later = g.2.behind }

end_given : (rest : Records) (others : List Piece) (old new : Reader) → Gives rest old End new (ended ∷ others) → (rest ≡ no_more) × (new.at ≡ old.at) × (new.left ≡ others)
end_given no_more others old new g = (refl, g.0, g.1)
end_given (a_block id inside behind) others old new g = absurd g
end_given (a_record code operands behind) others old new g = absurd g

-- ---- the loop

take_front : {A : Type 0} (xs ys : List A) (n : ℕ) → n ≡ length xs → take n (xs ++ ys) ≡ xs
take_front [] [] n is = ap (λ k. take k []) is
take_front [] (y ∷ ys) n is = ap (λ k. take k (y ∷ ys)) is
take_front (x ∷ xs) ys n is = ap (λ k. take k (x ∷ (xs ++ ys))) is ∙ ap (λ l. x ∷ l) (take_front xs ys (length xs) refl)

module _ (texts : Texts) (all : Records) (others : List Piece) where
  pub goes_begin : (m : ModuleReader) (b : Sofar) (known : ModuleAhead) → IsBefore m.reader.left all (ended ∷ others) → IsAhead texts all known → IsBegunOver m.reader known m → b.last ≡ 0 → (b.source ≡ None) × (b.layout ≡ None) × (b.triple ≡ None)
      → (b.initialisers.items ≡ []) × (b.defined.items ≡ []) × (b.targets.items ≡ []) → b.bodies.items ≡ [] → IsGoing texts all others m.reader.at m b known
  goes_begin m b known before ahead over last plain entries bodies = record {
    s = at_first texts m.reader.at all;
    rest = all;
    sofar = record {
      texts_are = refl;
      last = sym last;
      source = plain.0;
      layout = plain.1;
      triple = plain.2;
      numbers = numbers;
      counted = counted;
      outside = over.outside;
      good = record { variables = All-nil (λ n. is_good n ≡ true); functions = All-nil (λ n. is_good n ≡ true); aliases = All-nil (λ n. is_good n ≡ true) };
      part = inl (record {
        early = omega arith;
        numbers = refl;
        no_variables = refl;
        no_functions = refl;
        no_aliases = refl;
        no_initialisers = entries.0;
        none_defined = entries.1;
        no_targets = entries.2;
        no_bodies = bodies;
        over = over.over;
        gathered = ahead.structs;
        declares = λ types final a names d. d;
        foresees = λ k types bodies f. f;
      });
    };
    before = before;
    at = refl;
    from = refl;
  }
    where
      counted : AreCounted texts all m.globals
      counted = subst (λ n. AreCounted texts all n) (sym over.globals_are) ahead.counts

      nothing_taken : {A : Type 0} (xs : List A) → [] ≡ take 0 xs
      nothing_taken [] = refl
      nothing_taken (x ∷ xs) = refl

      numbers : Numbers m (known_at_first texts all)
      numbers =
          let v = counted.variables in
          let f = counted.functions in
          let x = counted.aliases in
          let both = length-append (names_of texts 5 all) (names_of texts 6 all) in
          let three = length-append (names_of texts 5 all ++ names_of texts 6 all) (names_of texts 7 all) in
          record {
            types = nothing_taken (trees m.growing.arena.table) ∙ ap (λ n. take n (trees m.growing.arena.table)) (sym over.over.types);
            structs_are = sym (ap (λ (a : Lists). structs a.table) over.over.arena);
            targets = sym (take_front (names_of texts 5 all ++ names_of texts 6 all) (names_of texts 7 all) (m.globals.variables + m.globals.functions) (omega (arith, v, f, both)));
            globals = omega (arith, v, f, x, both, three);
            values = sym over.outside.0;
            blocks = sym over.outside.1;
          }

  -- ---- a record

  module _ (first : ℕ) (m : ModuleReader) (b : Sofar) (known : ModuleAhead) (g : IsGoing texts all others first m b known) (r : Reader) where
    module _ (code : ℕ) (gives : (rest : Records) (pieces : List Piece) → IsBefore m.reader.left rest pieces → Gives rest m.reader (Record code) r pieces) where
      one : IsRecord g.rest (ended ∷ others) m.reader r code
      one = record_given g.rest (ended ∷ others) m.reader r code (gives g.rest (ended ∷ others) g.before)

      here : IsSofar texts all known (record m { reader = r }) b g.s (a_record code one.operands one.behind)
      here = subst (λ (rs : Records). IsSofar texts all known (record m { reader = r }) b g.s rs) one.is (sofar_reader texts all known m r b g.s g.rest g.sofar)

      record_is : module_from (at_first texts first all) all ≡ (records.record_in g.s code one.operands >>= λ t. module_from t one.behind)
      record_is = g.from ∙ ap (λ (rs : Records). module_from g.s rs) one.is

      pub goes_record : (new : ModuleReader) (b2 : Sofar) → ReadsPart texts (record m { reader = r }) b code (Ok tt) new b2 → IsGoing texts all others first new b2 known × (new.reader.left ≡ r.left) × (new.reader.spent ≡ r.spent)
      goes_record new b2 reads =
          let x = meant_by {A = records.Sofar} {B = Unit {0}} (λ done t. IsSofar texts all known new b2 t one.behind × IsPast (record m { reader = r }) new t) (records.record_in g.s code one.operands) tt
          (reads all known g.s one.operands one.behind here one.walk (one.at ∙ ap suc g.at)) in (
            record {
              s = x.value;
              rest = one.behind;
              sofar = x.meant.0;
              before = subst (λ l. IsBefore l one.behind (ended ∷ others)) (sym x.meant.1.left) one.before;
              at = x.meant.1.at;
              from = record_is ∙ ap (λ (a : Answer records.Sofar). a >>= λ t. module_from t one.behind) x.is;
            },
            x.meant.1.left,
            x.meant.1.spent,
          )

      pub record_refused : (new : ModuleReader) (b2 : Sofar) (given : BitcodeFault) (M : Unit {0} → records.Sofar → Type 0) → ReadsPart texts (record m { reader = r }) b code (Err given) new b2
          → Answers {A = records.Sofar} {B = Unit {0}} M (module_from (at_first texts first all) all) (Err given)
      record_refused new b2 given M reads =
          subst (λ (a : Answer records.Sofar). Answers {A = records.Sofar} {B = Unit {0}} M a (Err given)) (sym record_is)
          (refused_in_front {A = records.Sofar} {C = Unit {0}} _ M (records.record_in g.s code one.operands) (λ t. module_from t one.behind) given (reads all known g.s one.operands one.behind here one.walk (one.at ∙ ap suc g.at)))

      pub record_given_at : r.at ≡ suc m.reader.at
      record_given_at = one.at

    -- ---- a block

    module _ (id : ℕ) (gives : (rest : Records) (pieces : List Piece) → IsBefore m.reader.left rest pieces → Gives rest m.reader (Block id) r pieces) where
      held : IsBlock g.rest (ended ∷ others) m.reader r id
      held = block_given g.rest (ended ∷ others) m.reader r id (gives g.rest (ended ∷ others) g.before)

      now : IsSofar texts all known (record m { reader = r }) b g.s (a_block id held.inside held.behind)
      now = subst (λ (rs : Records). IsSofar texts all known (record m { reader = r }) b g.s rs) held.is (sofar_reader texts all known m r b g.s g.rest g.sofar)

      block_is : module_from (at_first texts first all) all ≡ (records.block_in g.s id held.inside >>= λ t. module_from t held.behind)
      block_is = g.from ∙ ap (λ (rs : Records). module_from g.s rs) held.is

      pub in_block : IsInBlock r.left
      in_block = record { inside = held.inside; others = held.pieces; before = held.before }

      pub may_be_types : MayBeTypes id texts b r.left known
      may_be_types is may = record {
        inside = held.inside;
        others = held.pieces;
        before = held.before;
        gathered = early_gathered texts all known (record m { reader = r }) b g.s id held.inside held.behind now is may;
      }

      pub goes_block : (new : ModuleReader) (b2 : Sofar) (later : ModuleAhead) → ReadsBlock texts all (record m { reader = r }) b known id (Ok tt) new b2 later → IsGoing texts all others first new b2 later × (length new.reader.left < length r.left) × (new.reader.spent ≡ false)
      goes_block new b2 later reads =
          let x = meant_by {A = records.Sofar} {B = Unit {0}} (λ done t. IsSofar texts all later new b2 t held.behind × IsOut new held.pieces t) (records.block_in g.s id held.inside) tt
          (reads g.s held.inside held.behind held.pieces now held.before (held.at ∙ g.at)) in (
            record {
              s = x.value;
              rest = held.behind;
              sofar = x.meant.0;
              before = subst (λ l. IsBefore l held.behind (ended ∷ others)) (sym x.meant.1.left) held.later;
              at = x.meant.1.at;
              from = block_is ∙ ap (λ (a : Answer records.Sofar). a >>= λ t. module_from t held.behind) x.is;
            },
            (
                let left = ap (λ (l : List Piece). length l) x.meant.1.left in
                let all_left = ap (λ (l : List Piece). length l) held.before.left_is in
                let both = length-append (flat held.before.tree) (ended ∷ held.pieces) in
                omega (arith, left, all_left, both)),
            x.meant.1.spent,
          )

      pub block_refused : (new : ModuleReader) (b2 : Sofar) (later : ModuleAhead) (given : BitcodeFault) (M : Unit {0} → records.Sofar → Type 0) → ReadsBlock texts all (record m { reader = r }) b known id (Err given) new b2 later
          → Answers {A = records.Sofar} {B = Unit {0}} M (module_from (at_first texts first all) all) (Err given)
      block_refused new b2 later given M reads =
          subst (λ (a : Answer records.Sofar). Answers {A = records.Sofar} {B = Unit {0}} M a (Err given)) (sym block_is)
          (refused_in_front {A = records.Sofar} {C = Unit {0}} _ M (records.block_in g.s id held.inside) (λ t. module_from t held.behind) given (reads g.s held.inside held.behind held.pieces now held.before (held.at ∙ g.at)))

    -- ---- the end

    module _ (gives : (rest : Records) (pieces : List Piece) → IsBefore m.reader.left rest pieces → Gives rest m.reader End r pieces) where
      last : (g.rest ≡ no_more) × (r.at ≡ m.reader.at) × (r.left ≡ others)
      last = end_given g.rest others m.reader r (gives g.rest (ended ∷ others) g.before)

      pub end_sofar : IsSofar texts all known (record m { reader = r }) b g.s no_more
      end_sofar = subst (λ (rs : Records). IsSofar texts all known (record m { reader = r }) b g.s rs) last.0 (sofar_reader texts all known m r b g.s g.rest g.sofar)

      pub end_from : module_from (at_first texts first all) all ≡ ended_at g.s
      end_from = g.from ∙ ap (λ (rs : Records). module_from g.s rs) last.0

      pub end_at : r.at ≡ g.s.at
      end_at = last.1 ∙ g.at

      pub end_left : r.left ≡ others
      end_left = last.2

-- ---- what one entry answers

module _ (texts : Texts) (all : Records) (others : List Piece) (first : ℕ) (m : ModuleReader) (b : Sofar) (known : ModuleAhead) (g : IsGoing texts all others first m b known) (r : Reader) (new : ModuleReader) (b2 : Sofar) where
  pub record_goes : (code : ℕ) → ((rest : Records) (pieces : List Piece) → IsBefore m.reader.left rest pieces → Gives rest m.reader (Record code) r pieces) → (result : Result (Unit {0}) BitcodeFault)
      → ReadsPart texts (record m { reader = r }) b code result new b2 → GoesOn texts all others first (told_more result) new b2 known
  record_goes code gives (Ok done) reads = (goes_record texts all others first m b known g r code gives new b2 reads).0
  record_goes code gives (Err given) reads = record_refused texts all others first m b known g r code gives new b2 given (λ done s. ⊥) reads

  pub block_goes : (later : ModuleAhead) (id : ℕ) → ((rest : Records) (pieces : List Piece) → IsBefore m.reader.left rest pieces → Gives rest m.reader (Block id) r pieces) → (result : Result (Unit {0}) BitcodeFault)
      → ReadsBlock texts all (record m { reader = r }) b known id result new b2 later → GoesOn texts all others first (told_more result) new b2 later
  block_goes later id gives (Ok done) reads = (goes_block texts all others first m b known g r id gives new b2 later reads).0
  block_goes later id gives (Err given) reads = block_refused texts all others first m b known g r id gives new b2 later given (λ done s. ⊥) reads

  -- the reader is not spent, and nearer to the end
  pub record_nearer : (code : ℕ) → ((rest : Records) (pieces : List Piece) → IsBefore m.reader.left rest pieces → Gives rest m.reader (Record code) r pieces) → length r.left < length m.reader.left → r.spent ≡ false → (result : Result (Unit {0}) BitcodeFault)
      → ReadsPart texts (record m { reader = r }) b code result new b2 → OnOk (told_more result) ((new.reader.spent ≡ false) × (length new.reader.left < length m.reader.left))
  record_nearer code gives nearer unspent (Ok done) reads =
      let x = goes_record texts all others first m b known g r code gives new b2 reads in
      let left = ap (λ (l : List Piece). length l) x.1 in
      (x.2 ∙ unspent, omega (arith, nearer, left))
  record_nearer code gives nearer unspent (Err given) reads = tt

  pub block_nearer : (later : ModuleAhead) (id : ℕ) → ((rest : Records) (pieces : List Piece) → IsBefore m.reader.left rest pieces → Gives rest m.reader (Block id) r pieces) → length r.left < length m.reader.left → (result : Result (Unit {0}) BitcodeFault)
      → ReadsBlock texts all (record m { reader = r }) b known id result new b2 later → OnOk (told_more result) ((new.reader.spent ≡ false) × (length new.reader.left < length m.reader.left))
  block_nearer later id gives nearer (Ok done) reads =
      let x = goes_block texts all others first m b known g r id gives new b2 later reads in
      let left = x.1 in
      (x.2, omega (arith, nearer, left))
  block_nearer later id gives nearer (Err given) reads = tt

pub end_goes : (texts : Texts) (all : Records) (others : List Piece) (first : ℕ) (m : ModuleReader) (b : Sofar) (known : ModuleAhead) (g : IsGoing texts all others first m b known) (r : Reader)
    → ((rest : Records) (pieces : List Piece) → IsBefore m.reader.left rest pieces → Gives rest m.reader End r pieces) → IsAtEnd texts all others first (record m { reader = r }) b known
end_goes texts all others first m b known g r gives = record {
  s = g.s;
  sofar = end_sofar texts all others first m b known g r gives;
  at = end_at texts all others first m b known g r gives;
  left = end_left texts all others first m b known g r gives;
  from = end_from texts all others first m b known g r gives;
}

-- ---- what holds of an answer

pub on_more : (P : Type 0) (result : Result (Unit {0}) BitcodeFault) → OnOk result P → OnOk (told_more result) P
on_more P (Ok done) h = h
on_more P (Err given) h = tt

pub ok_first : (P Q : Type 0) (result : Result (Unit {0}) BitcodeFault) → OnOk (told_more result) (P × Q) → OnOk (told_more result) P
ok_first P Q (Ok done) h = h.0
ok_first P Q (Err given) h = tt

pub ok_second : (P Q : Type 0) (result : Result (Unit {0}) BitcodeFault) → OnOk (told_more result) (P × Q) → told_more result ≡ Ok true → Q
ok_second P Q (Ok done) h is = h.1
ok_second P Q (Err given) h is = absurd (cc)

-- a call that is left as it is keeps what holds
pub when_ok : {A E P : Type 0} (result : Result A E) → P → OnOk result P
when_ok (Ok x) h = h
when_ok (Err e) h = tt

-- no answer is both
pub never_both : {A E : Type 0} (result : Result A E) (given : E) (kept : A) → result ≡ Err given → result ≡ Ok kept → ⊥
never_both result given kept p q = cc

-- the end is nothing more
pub end_is_last : {P : Type 0} (result : Result Bool BitcodeFault) → result ≡ Ok false → result ≡ Ok true → P
end_is_last result p q = absurd (cc)

-- a refusal of an entry is one of the block
pub goes_refused : (texts : Texts) (all : Records) (others : List Piece) (first : ℕ) (m : ModuleReader) (b : Sofar) (known : ModuleAhead) (given : BitcodeFault) (M : Sofar → records.Sofar → Type 0) → GoesOn texts all others first (Err given) m b known
    → Answers {A = records.Sofar} {B = Sofar} M (module_from (at_first texts first all) all) (Err given)
goes_refused texts all others first m b known given M h = refused_so {A = records.Sofar} {B = Unit {0}} {C = Sofar} (λ done s. ⊥) M (module_from (at_first texts first all) all) given h
