-- Inputs that stand for parts, and parts that are linked.
use Rattle.std.proofs.Common.{◌≡◌, ◌⊎◌, inl, inr, ℕ, ◌+◌, ◌≤◌, ◌<◌, Bool, true, false, List, [], ◌∷◌, ◌++◌, length, take, get_or, Option, None, Result, Ok, Err, refl, sym, ap, ◌∙◌, true≢false}
use Rattle.std.specs.Prelude.{IfOk, IfErr}
use Rattle.std.specs.Bool.{MatchBool}
use Rattle.std.proofs.lemmas.List.{take_more, take_all}
use Rattle.ir_syntax.specs.Tree.{ItemTree}
use Rattle.linkage_rules.specs.Conflicts.{FoundConflict, first_conflict}
use Rattle.linkage_rules.specs.Ids.{modules}
use Rattle.link_rules.specs.Counts.{Count, too_many}
use Rattle.link_rules.specs.Linked.{link_result}
use Rattle.run_rules.specs.Same.{RunAlike}
use Rattle.module_arena.specs.Functions.{first_too_large}
use Rattle.module_arena.specs.Valid.{IsValid}
use Rattle.module_arena.specs.WellFormed.{IsWellFormed}
use Rattle.module_arena.specs.Lists.{Lists}
use Rattle.module_arena.specs.Module.{Module}
use Rattle.module_arena.specs.View.{module_of}
use Rattle.name_rules.specs.Reads.{Reads}
use Rattle.record_table.specs.Records.{Spells}
use Rattle.tool_output.specs.declared.ends.ended.Ended.{Ended}
use Rattle.tool_output.specs.declared.ends.ended.Ended.TheVariants.{Memory}
use Rattle.tool_output.specs.declared.ends.ended.Ended.TheVariants as ends
use Rattle.tool_cli.specs.Judged.{is_bitcode, AreAccepted, HasModule, IsBitcodeOf, IsBitcodeRefused, IsPartAccepted, IsPartRefused, IsTextOf, IsTextRefused}
use Rattle.tool_cli.specs.Made.{AreParts, IsPart, LinksTo}
use Rattle.tool_cli.specs.Told.{link_end, IsLinking}

-- Over an input that begins as bitcode does, and over one that does not.

bitcode_by : (bitcode : Bool) (P Q : Type 0) → bitcode ≡ true → P → MatchBool bitcode P Q
bitcode_by true P Q e p = p
bitcode_by false P Q e p = absurd (true≢false (sym e))

text_by : (bitcode : Bool) (P Q : Type 0) → bitcode ≡ false → Q → MatchBool bitcode P Q
text_by true P Q e q = absurd (true≢false e)
text_by false P Q e q = q

both_by : (bitcode : Bool) (P Q R S : Type 0) → (P → R) → (Q → S) → MatchBool bitcode P Q → MatchBool bitcode R S
both_by true P Q R S of_bitcode of_text p = of_bitcode p
both_by false P Q R S of_bitcode of_text q = of_text q

-- accepted bitcode stands for its module
bitcode_part : (bytes : List ℕ) (m : Module) → is_bitcode bytes ≡ true → IsBitcodeOf bytes m → IsPart bytes m
bitcode_part bytes m bitcode is = record {
  stands = bitcode_by (is_bitcode bytes) (Spells bytes m) (Reads bytes m) bitcode is.spelled;
  sized = is.sized;
  valid = is.valid;
}

-- and so does an accepted text
pub text_part : (bytes : List ℕ) (items : List ItemTree) (m : Module) → is_bitcode bytes ≡ false → IsTextOf bytes items m → IsPart bytes m
text_part bytes items m text is = record {
  stands = text_by (is_bitcode bytes) (Spells bytes m) (Reads bytes m) text (record { items = items; has_items = is.has_items; resolves = is.accepted.resolves });
  sized = is.accepted.sized;
  valid = is.accepted.valid;
}

-- what stands for a module is accepted as an input
pub part_accepted : (bytes : List ℕ) (m : Module) → IsPart bytes m → IsPartAccepted bytes
part_accepted bytes m is =
    both_by (is_bitcode bytes) (Spells bytes m) (Reads bytes m) ((n : Module) × IsBitcodeOf bytes n) ((items : List ItemTree) × HasModule bytes items)
    (λ spells. (m, record { spelled = spells; sized = is.sized; valid = is.valid }))
    (λ reads. (reads.items, (reads.has_items, (m, record { resolves = reads.resolves; sized = is.sized; valid = is.valid })))) is.stands

-- what is found for bitcode, and for a text

pub bitcode_found : (bytes : List ℕ) (found : Result Lists Ended) → is_bitcode bytes ≡ true → IfOk found (λ checked. IsBitcodeOf bytes (module_of checked)) → IfOk found (λ checked. IsPart bytes (module_of checked))
bitcode_found bytes (Ok checked) bitcode is = bitcode_part bytes (module_of checked) bitcode is
bitcode_found bytes (Err ended) bitcode is = tt

refused_so : (name bytes : List ℕ) (ended : Ended) → is_bitcode bytes ≡ true → IsBitcodeRefused name bytes ended ⊎ (ended ≡ Memory) → IsPartRefused name bytes ended ⊎ (ended ≡ Memory)
refused_so name bytes ended bitcode (inl refused) = inl (bitcode_by (is_bitcode bytes) (IsBitcodeRefused name bytes ended) (IsTextRefused name bytes ended) bitcode refused)
refused_so name bytes ended bitcode (inr none) = inr none

pub bitcode_unfound : (name bytes : List ℕ) (found : Result Lists Ended) → is_bitcode bytes ≡ true → IfErr found (λ ended. IsBitcodeRefused name bytes ended ⊎ (ended ≡ Memory)) → IfErr found (λ ended. IsPartRefused name bytes ended ⊎ (ended ≡ Memory))
bitcode_unfound name bytes (Ok checked) bitcode refused = tt
bitcode_unfound name bytes (Err ended) bitcode refused = refused_so name bytes ended bitcode refused

pub text_unfound : (name bytes : List ℕ) (ended : Ended) → is_bitcode bytes ≡ false → IsTextRefused name bytes ended ⊎ (ended ≡ Memory) → IsPartRefused name bytes ended ⊎ (ended ≡ Memory)
text_unfound name bytes ended text (inl refused) = inl (text_by (is_bitcode bytes) (IsBitcodeRefused name bytes ended) (IsTextRefused name bytes ended) text refused)
text_unfound name bytes ended text (inr none) = inr none

-- Inputs, one behind another.

-- one part more
parts_more : (texts : List (List ℕ)) (ms : List Module) (text : List ℕ) (m : Module) → AreParts texts ms → IsPart text m → AreParts (texts ++ text ∷ []) (ms ++ m ∷ [])
parts_more [] [] text m are is = (is, tt)
parts_more [] (n ∷ ms) text m are is = absurd are
parts_more (t ∷ texts) [] text m are is = absurd are
parts_more (t ∷ texts) (n ∷ ms) text m are is = (are.0, parts_more texts ms text m are.1 is)

modules_more : (parts : List Lists) (part : Lists) → modules (parts ++ part ∷ []) ≡ modules parts ++ module_of part ∷ []
modules_more [] part = refl
modules_more (p ∷ parts) part = ap (λ (ms : List Module). module_of p ∷ ms) (modules_more parts part)

next_taken : (texts : List (List ℕ)) (i : ℕ) (text : List ℕ) → i < length texts → text ≡ get_or texts i text → take (i + 1) texts ≡ take i texts ++ text ∷ []
next_taken texts i text h at = take_more texts i text h ∙ ap (λ (x : List ℕ). take i texts ++ x ∷ []) (sym at)

pub taken_more : (texts : List (List ℕ)) (i : ℕ) (parts : List Lists) (text : List ℕ) (part : Lists) → i < length texts → text ≡ get_or texts i text → AreParts (take i texts) (modules parts) → IsPart text (module_of part) → AreParts (take (i + 1) texts) (modules (parts ++ part ∷ []))
taken_more texts i parts text part h at are is = rw (next_taken texts i text h at, modules_more parts part) (parts_more (take i texts) (modules parts) text (module_of part) are is)

pub taken_all : (texts : List (List ℕ)) (i : ℕ) (parts : List Module) → length texts ≤ i → AreParts (take i texts) parts → AreParts texts parts
taken_all texts i parts h are = rw (take_all i texts h) at are

-- Parts that are linked.

pub parts_link : (texts : List (List ℕ)) (parts : List Module) (m : Module) → AreParts texts parts → first_conflict parts ≡ None → too_many parts ≡ None → m ≡ link_result parts → IsWellFormed m → IsValid m → first_too_large m ≡ None → RunAlike (m ∷ []) parts → LinksTo texts m
parts_link texts parts m are agree few made well_formed valid sized runs = record {
  parts = parts;
  are_parts = are;
  linked = record { agree = agree; few = few; made = made; well_formed = well_formed; valid = valid; sized = sized; runs = runs };
}

-- the end over parts that are linked
pub parts_linking : (names texts : List (List ℕ)) (parts : List Module) → AreAccepted texts → AreParts texts parts → first_conflict parts ≡ None → too_many parts ≡ None → IsLinking names texts ends.Ok
parts_linking names texts parts accepted are agree few =
    let told = ap (λ (conflict : Option FoundConflict). link_end names conflict (too_many parts)) agree ∙ ap (λ (count : Option Count). link_end names None count) few in
    inr (accepted, record { parts = parts; are_parts = are; told = sym told })

-- and over parts that are not
pub parts_unlinked : (names texts : List (List ℕ)) (parts : List Module) (ended : Ended) → AreAccepted texts → AreParts texts parts → (ended ≡ link_end names (first_conflict parts) (too_many parts)) ⊎ (ended ≡ Memory) → IsLinking names texts ended ⊎ (ended ≡ Memory)
parts_unlinked names texts parts ended accepted are (inl told) = inl (inr (accepted, record { parts = parts; are_parts = are; told = told }))
parts_unlinked names texts parts ended accepted are (inr none) = inr none
