-- A module's block as it is gone through ahead: what was gathered so far, and what is to come.
use Rattle.std.proofs.Common.{◌≡◌, ◌+◌, ◌<◌, ◌&&◌, ℕ, suc, not, Bool, true, false, cond, List, [], ◌∷◌, length, refl, sym, ap, subst, ◌∙◌, arith, length-append}
use Rattle.std.specs.Prelude.{nat_eq}
use Rattle.std.proofs.lemmas.Bool.{false_from_ne_true, eqb-true}
use Rattle.bit_tree.specs.Pieces.{Piece, ended, flat}
use Rattle.record_table.specs.Fields.{Texts, name}
use Rattle.record_table.specs.Layout.{judged}
use Rattle.record_table.specs.Faults.{Records, no_more, a_block, a_record, types_id}
use Rattle.record_table.specs.Records.{names_of}
use Rattle.record_table.specs.TypeRecords.{names_in}
use Rattle.record_read.specs.Entries.{IsBefore, Gives}
use Rattle.record_read.specs.declared.entry.NextEntry.TheVariants.{Block, Record, End}
use Rattle.record_read.specs.Reader.{Reader}
use Rattle.type_read.specs.declared.arena.counts.GlobalCounts.{GlobalCounts}
use Rattle.type_read.specs.Listed.{AreGathered}
use Rattle.bitcode_read.specs.declared.head.ahead.ModuleAhead.{ModuleAhead}
use Rattle.bitcode_read.specs.declared.head.ahead.NamedStructs.{NamedStructs}
use Rattle.bitcode_read.specs.Head.Ahead.{CountsRecord, Gathers, GathersBlock, GathersIf, IsAhead, IsNothing, first_types, one_where}
use Rattle.bitcode_read.proofs.OnHead.Finding.{GivesAll}

-- ---- one record

pub counts_variable : (code : ℕ) (old new : GlobalCounts) → code ≡ 5 → new.variables ≡ old.variables + 1 → new.functions ≡ old.functions → new.aliases ≡ old.aliases → CountsRecord code old new
counts_variable code old new is v f a = subst (λ c. CountsRecord c old new) (sym is) (record { variables = v; functions = plus old.functions f; aliases = plus old.aliases a })
  where
    plus : (n : ℕ) {m : ℕ} → m ≡ n → m ≡ n + 0
    plus n e = omega arith

pub counts_function : (code : ℕ) (old new : GlobalCounts) → code ≡ 6 → new.variables ≡ old.variables → new.functions ≡ old.functions + 1 → new.aliases ≡ old.aliases → CountsRecord code old new
counts_function code old new is v f a = subst (λ c. CountsRecord c old new) (sym is) (record { variables = plus old.variables v; functions = f; aliases = plus old.aliases a })
  where
    plus : (n : ℕ) {m : ℕ} → m ≡ n → m ≡ n + 0
    plus n e = omega arith

pub counts_alias : (code : ℕ) (old new : GlobalCounts) → code ≡ 7 → new.variables ≡ old.variables → new.functions ≡ old.functions → new.aliases ≡ old.aliases + 1 → CountsRecord code old new
counts_alias code old new is v f a = subst (λ c. CountsRecord c old new) (sym is) (record { variables = plus old.variables v; functions = plus old.functions f; aliases = a })
  where
    plus : (n : ℕ) {m : ℕ} → m ≡ n → m ≡ n + 0
    plus n e = omega arith

-- a record of another code is no entry
pub counts_other : (code : ℕ) (old : GlobalCounts) → (code ≡ 5 → ⊥) → (code ≡ 6 → ⊥) → (code ≡ 7 → ⊥) → CountsRecord code old old
counts_other code old v f a = record { variables = none old.variables 5 v; functions = none old.functions 6 f; aliases = none old.aliases 7 a }
  where
    none : (n k : ℕ) → (code ≡ k → ⊥) → n ≡ n + one_where (nat_eq code k)
    none n k other = let e = ap (λ b. one_where b) (false_from_ne_true (nat_eq code k) (λ t. other (eqb-true code k t))) in omega arith

-- ---- one block

-- the first block of types
pub gathers_first : (texts : Texts) (id : ℕ) (held : Records) (others : List Piece) (had : Bool) (ahead : ModuleAhead) (r : Reader) (found : NamedStructs) → (nat_eq id types_id && not had) ≡ true → Gathers texts held others r found
    → GathersBlock texts id held had ahead true (record ahead { structs = found.structs; named = found.named })
gathers_first texts id held others had ahead r found is g =
    subst (λ b. GathersIf b texts held had ahead true (record ahead { structs = found.structs; named = found.named })) (sym is) (refl, g.structs, refl)

-- another block
pub gathers_other : (texts : Texts) (id : ℕ) (held : Records) (had : Bool) (ahead : ModuleAhead) → (nat_eq id types_id && not had) ≡ false → GathersBlock texts id held had ahead had ahead
gathers_other texts id held had ahead is = subst (λ b. GathersIf b texts held had ahead had ahead) (sym is) (refl, refl)

-- ---- so far

-- the structs: none yet, or those of the first block of types
abbrev pub StructsSoFar : Texts → Records → Records → Bool → ModuleAhead → Type 0
StructsSoFar texts inside rest false ahead = (first_types inside ≡ first_types rest) × AreGathered ahead.named ahead.structs []
StructsSoFar texts inside rest true ahead = AreGathered ahead.named ahead.structs (names_in texts (first_types inside))

-- entries of that code: so many were counted, and `rest` is to come
abbrev pub CountSoFar : Texts → ℕ → Records → Records → ℕ → Type 0
CountSoFar texts code inside rest count = length (names_of texts code inside) ≡ count + length (names_of texts code rest)

-- these were gathered, and `rest` is to come
pub record IsGathering (texts : Texts) (inside : Records) (others : List Piece) (ahead : ModuleAhead) (has : Bool) (r : Reader) : Type 0 where
  pub rest : Records
  pub before : IsBefore r.left rest (ended ∷ others)
  pub variables : CountSoFar texts 5 inside rest ahead.counts.variables
  pub functions : CountSoFar texts 6 inside rest ahead.counts.functions
  pub aliases : CountSoFar texts 7 inside rest ahead.counts.aliases
  pub structs : StructsSoFar texts inside rest has ahead

pub gathers_none : (texts : Texts) (inside : Records) (others : List Piece) (ahead : ModuleAhead) (r : Reader) → IsNothing ahead → IsBefore r.left inside (ended ∷ others) → IsGathering texts inside others ahead false r
gathers_none texts inside others ahead r none before = record {
  rest = inside;
  before = before;
  variables = from (length (names_of texts 5 inside)) none.variables;
  functions = from (length (names_of texts 6 inside)) none.functions;
  aliases = from (length (names_of texts 7 inside)) none.aliases;
  structs = (refl, none.structs);
}
  where
    from : (n : ℕ) {m : ℕ} → m ≡ 0 → n ≡ m + n
    from n e = omega arith

-- one more name, where the record is of that code
one_name : (texts : Texts) (k code : ℕ) (operands : List ℕ) (behind : Records) → length (names_of texts k (a_record code operands behind)) ≡ one_where (nat_eq code k) + length (names_of texts k behind)
one_name texts k code operands behind = by (nat_eq code k)
  where
    by : (b : Bool) → length (cond b ((judged (name texts) operands).0 ∷ names_of texts k behind) (names_of texts k behind)) ≡ one_where b + length (names_of texts k behind)
    by true = omega arith
    by false = omega arith

count_on : (texts : Texts) (k code : ℕ) (inside behind : Records) (operands : List ℕ) (old new : ℕ) → CountSoFar texts k inside (a_record code operands behind) old → new ≡ old + one_where (nat_eq code k) → CountSoFar texts k inside behind new
count_on texts k code inside behind operands old new h is =
    sum (length (names_of texts k inside)) (length (names_of texts k (a_record code operands behind))) (length (names_of texts k behind)) (one_where (nat_eq code k)) old new h (one_name texts k code operands behind) is
  where
    sum : (n m l one old new : ℕ) → n ≡ old + m → m ≡ one + l → new ≡ old + one → n ≡ new + l
    sum n m l one old new e f g = omega arith

-- a record was counted
pub gathered_record : (texts : Texts) (inside : Records) (others : List Piece) (ahead : ModuleAhead) (now : GlobalCounts) (has : Bool) (r after : Reader) (code : ℕ) → IsGathering texts inside others ahead has r → GivesAll r (Record code) after
    → CountsRecord code ahead.counts now → IsGathering texts inside others (record ahead { counts = now }) has after
gathered_record texts inside others ahead now has r after code h gives counts = by_rest h.rest h.variables h.functions h.aliases h.structs (gives h.rest (ended ∷ others) h.before)
  where
    by_rest : (rest : Records) → CountSoFar texts 5 inside rest ahead.counts.variables → CountSoFar texts 6 inside rest ahead.counts.functions → CountSoFar texts 7 inside rest ahead.counts.aliases → StructsSoFar texts inside rest has ahead
        → Gives rest r (Record code) after (ended ∷ others) → IsGathering texts inside others (record ahead { counts = now }) has after
    by_rest no_more v f a s g = absurd g
    by_rest (a_block id held behind) v f a s g = absurd g
    by_rest (a_record other operands behind) v f a s g = record {
      rest = behind;
      before = g.3;
      variables = count_on texts 5 other inside behind operands ahead.counts.variables now.variables v (counts.variables ∙ ap (λ c. ahead.counts.variables + one_where (nat_eq c 5)) g.0);
      functions = count_on texts 6 other inside behind operands ahead.counts.functions now.functions f (counts.functions ∙ ap (λ c. ahead.counts.functions + one_where (nat_eq c 6)) g.0);
      aliases = count_on texts 7 other inside behind operands ahead.counts.aliases now.aliases a (counts.aliases ∙ ap (λ c. ahead.counts.aliases + one_where (nat_eq c 7)) g.0);
      structs = structs_on has s;
    }
      where
        structs_on : (has : Bool) → StructsSoFar texts inside (a_record other operands behind) has ahead → StructsSoFar texts inside behind has (record ahead { counts = now })
        structs_on true s = s
        structs_on false s = s

-- a block was gone through
pub gathered_block : (texts : Texts) (inside : Records) (others : List Piece) (ahead made : ModuleAhead) (had has : Bool) (r now after : Reader) (id : ℕ) → IsGathering texts inside others ahead had r → GivesAll r (Block id) now
    → ((held : Records) (rest : List Piece) → IsBefore now.left held (ended ∷ rest) → GathersBlock texts id held had ahead has made × (after.left ≡ rest)) → IsGathering texts inside others made has after
gathered_block texts inside others ahead made had has r now after id h gives gathers = by_rest h.rest h.variables h.functions h.aliases h.structs (gives h.rest (ended ∷ others) h.before)
  where
    by_rest : (rest : Records) → CountSoFar texts 5 inside rest ahead.counts.variables → CountSoFar texts 6 inside rest ahead.counts.functions → CountSoFar texts 7 inside rest ahead.counts.aliases → StructsSoFar texts inside rest had ahead
        → Gives rest r (Block id) now (ended ∷ others) → IsGathering texts inside others made has after
    by_rest no_more v f a s g = absurd g
    by_rest (a_record code operands behind) v f a s g = absurd g
    by_rest (a_block other held behind) v f a s g =
        let in_front = g.2 in
        let one = gathers held in_front.pieces in_front.inside in
        let left : after.left ≡ in_front.pieces = one.1 in
        by_block (nat_eq other types_id) had refl s (subst (λ n. GathersIf (nat_eq n types_id && not had) texts held had ahead has made) g.0 one.0) (subst (λ l. IsBefore l behind (ended ∷ others)) (sym left) in_front.behind)
      where
        done : made.counts ≡ ahead.counts → StructsSoFar texts inside behind has made → IsBefore after.left behind (ended ∷ others) → IsGathering texts inside others made has after
        done same structs before = record {
          rest = behind;
          before = before;
          variables = subst (λ (c : GlobalCounts). CountSoFar texts 5 inside behind c.variables) (sym same) v;
          functions = subst (λ (c : GlobalCounts). CountSoFar texts 6 inside behind c.functions) (sym same) f;
          aliases = subst (λ (c : GlobalCounts). CountSoFar texts 7 inside behind c.aliases) (sym same) a;
          structs = structs;
        }

        by_block : (b had : Bool) → nat_eq other types_id ≡ b → StructsSoFar texts inside (a_block other held behind) had ahead → GathersIf (b && not had) texts held had ahead has made → IsBefore after.left behind (ended ∷ others)
            → IsGathering texts inside others made has after
        by_block true false is s m before =
            let first : first_types inside ≡ held = s.0 ∙ ap (λ b. cond b held (first_types behind)) is in
            done m.2 (subst (λ x. StructsSoFar texts inside behind x made) (sym m.0) (subst (λ x. AreGathered made.named made.structs (names_in texts x)) (sym first) m.1)) before
        by_block true true is s m before = done (ap (λ (x : ModuleAhead). x.counts) m.1) (subst (λ x. StructsSoFar texts inside behind x made) (sym m.0) (subst (λ (x : ModuleAhead). StructsSoFar texts inside behind true x) (sym m.1) s)) before
        by_block false true is s m before = done (ap (λ (x : ModuleAhead). x.counts) m.1) (subst (λ x. StructsSoFar texts inside behind x made) (sym m.0) (subst (λ (x : ModuleAhead). StructsSoFar texts inside behind true x) (sym m.1) s)) before
        by_block false false is s m before =
            let first : first_types inside ≡ first_types behind = s.0 ∙ ap (λ b. cond b held (first_types behind)) is in
            done (ap (λ (x : ModuleAhead). x.counts) m.1) (subst (λ x. StructsSoFar texts inside behind x made) (sym m.0) (subst (λ (x : ModuleAhead). StructsSoFar texts inside behind false x) (sym m.1) (first, s.1))) before

-- the end of the block
pub gathers_all : (texts : Texts) (inside : Records) (others : List Piece) (ahead : ModuleAhead) (has : Bool) (r now : Reader) → IsGathering texts inside others ahead has r → GivesAll r End now → IsAhead texts inside ahead
gathers_all texts inside others ahead has r now h gives = by_rest h.rest h.variables h.functions h.aliases h.structs (gives h.rest (ended ∷ others) h.before)
  where
    none_left : (n m : ℕ) → n ≡ m + 0 → m ≡ n
    none_left n m e = omega arith

    structs_by : (has : Bool) → StructsSoFar texts inside no_more has ahead → AreGathered ahead.named ahead.structs (names_in texts (first_types inside))
    structs_by false s = subst (λ x. AreGathered ahead.named ahead.structs (names_in texts x)) (sym s.0) s.1
    structs_by true s = s

    by_rest : (rest : Records) → CountSoFar texts 5 inside rest ahead.counts.variables → CountSoFar texts 6 inside rest ahead.counts.functions → CountSoFar texts 7 inside rest ahead.counts.aliases → StructsSoFar texts inside rest has ahead
        → Gives rest r End now (ended ∷ others) → IsAhead texts inside ahead
    by_rest no_more v f a s g = record {
      counts = record {
        variables = none_left (length (names_of texts 5 inside)) ahead.counts.variables v;
        functions = none_left (length (names_of texts 6 inside)) ahead.counts.functions f;
        aliases = none_left (length (names_of texts 7 inside)) ahead.counts.aliases a;
      };
      structs = structs_by has s;
    }
    by_rest (a_block id held behind) v f a s g = absurd g
    by_rest (a_record code operands behind) v f a s g = absurd g

-- ---- fewer pieces are left behind a block

pub left_fewer : (r now after : Reader) (id : ℕ) (rest : Records) (others : List Piece) → IsBefore r.left rest others → length now.left < length r.left → GivesAll r (Block id) now
    → ((held : Records) (later : List Piece) → IsBefore now.left held (ended ∷ later) → after.left ≡ later) → length after.left < length r.left
left_fewer r now after id rest others before nearer gives passes = by_rest rest (gives rest others before)
  where
    less : (n m l k : ℕ) → n ≡ m + suc l → n < k → l < k
    less n m l k e lt = omega arith

    by_rest : (rest : Records) → Gives rest r (Block id) now others → length after.left < length r.left
    by_rest no_more g = absurd g
    by_rest (a_record code operands behind) g = absurd g
    by_rest (a_block other held behind) g =
        let in_front = g.2 in
        let left : after.left ≡ in_front.pieces = passes held in_front.pieces in_front.inside in
        let many : length now.left ≡ length (flat in_front.inside.tree) + suc (length in_front.pieces) = ap (λ (l : List Piece). length l) in_front.inside.left_is ∙ length-append (flat in_front.inside.tree) (ended ∷ in_front.pieces) in
        subst (λ (l : List Piece). length l < length r.left) (sym left) (less (length now.left) (length (flat in_front.inside.tree)) (length in_front.pieces) (length r.left) many nearer)

-- nothing is ahead where there is no block
pub nothing_inside : (texts : Texts) (inside : Records) (ahead : ModuleAhead) → inside ≡ no_more → IsNothing ahead → IsAhead texts inside ahead
nothing_inside texts inside ahead is none = subst (λ x. IsAhead texts x ahead) (sym is) (record { counts = record { variables = none.variables; functions = none.functions; aliases = none.aliases }; structs = none.structs })
