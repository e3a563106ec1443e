-- The name at the end of a struct's record.
use Rattle.std.proofs.Common.{◌≡◌, ◌&&◌, ℕ, Bool, true, false, Option, Some, None, refl, sym, ap, ◌∙◌}
use Rattle.std.proofs.lemmas.Bool.{and_from}
use Rattle.module_arena.specs.Module.{Bytes}
use Rattle.record_table.specs.Layout.{asking}
use Rattle.record_table.specs.Fields.{Texts, is_name}
use Rattle.record_table.specs.TypeRecords.{struct_body, definition}
use Rattle.record_read.specs.Reader.{Reader, ReadsAs, is_broken}
use Rattle.record_read.specs.Fields.{ReadsText, IsNamed, are_bytes}
use Rattle.record_read.proofs.Sized.{named_reads}
use Rattle.type_read.specs.Fields.{IsBodyOf, IsDefinition, ReadsName, is_good}
use Rattle.type_read.specs.declared.definition.StructDefinition.{StructDefinition}

pub no_name : (x : Bytes) → is_name x ≡ false → is_good x ≡ false
no_name x h = ap (λ b. b && are_bytes x) h

pub no_bytes : (x : Bytes) → are_bytes x ≡ false → is_good x ≡ false
no_bytes x h = by_case (is_name x) (are_bytes x) h
  where
    by_case : (a b : Bool) → b ≡ false → (a && b) ≡ false
    by_case true b e = e
    by_case false b e = refl

pub name_some : (t : Texts) (old mid now : Reader) (text : Option Bytes) (name : Bytes) → ReadsText t.last old mid text → IsNamed text mid (Some name) now → are_bytes name ≡ true → ReadsName t old now (Some name)
name_some t old mid now None name h n bytes = absurd (cc (n.0))
name_some t old mid now (Some text) name h n bytes =
    let same : name ≡ (t.last.read old.walk).0 = n.0 ∙ h.kept in
    record {
      value = (same, ap is_good (sym same) ∙ and_from (is_name name) (are_bytes name) (ap is_name n.0 ∙ n.1) bytes);
      reader = named_reads t.last old mid now (Some text) (Some name) h n;
      broken = λ none. absurd (cc);
    }

pub name_none : (t : Texts) (old mid now : Reader) (text : Option Bytes) → ReadsText t.last old mid text → IsNamed text mid None now → ReadsName t old now None
name_none t old mid now None h n = record {
  value = no_bytes (t.last.read old.walk).0 h.kept.0;
  reader = named_reads t.last old mid now None None h n;
  broken = λ none. ap (λ (r : Reader). is_broken r.walk) n.1 ∙ h.kept.1;
}
name_none t old mid now (Some text) h n = record {
  value = no_name (t.last.read old.walk).0 (ap is_name (sym h.kept) ∙ n.0);
  reader = named_reads t.last old mid now (Some text) None h n;
  broken = λ none. n.2;
}

-- a definition is a body and a name
module _ (t : Texts) (count : ℕ) (old mid now : Reader) (made : StructDefinition) (b : ReadsAs (IsBodyOf count) (struct_body count) old mid made.body) (n : ReadsName t mid now made.name) where
  mid_walk : mid.walk ≡ ((struct_body count).read old.walk).1
  mid_walk = ap (λ (r : Reader). r.walk) b.reader

  pub defined_reader : now ≡ record old { walk = ((definition t count).read old.walk).1 }
  defined_reader = n.reader ∙ ap (λ (r : Reader). record r { walk = ((asking 4 is_name t.last).read r.walk).1 }) b.reader

  now_walk : now.walk ≡ ((definition t count).read old.walk).1
  now_walk = ap (λ (r : Reader). r.walk) defined_reader

  pub defined_is : IsDefinition t count old.walk made
  defined_is = record {
    body = rw (← mid_walk) b.kept;
    name = rw (← mid_walk) n.value;
    broken = λ none. sym (ap is_broken now_walk) ∙ n.broken none;
  }
