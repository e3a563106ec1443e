-- The name in front of a record.
use Rattle.std.proofs.Common.{◌≡◌, true, Option, Some, None, sym, ap, ◌∙◌}
use Rattle.std.proofs.lemmas.Bool.{and_from}
use Rattle.module_arena.specs.Module.{Bytes}
use Rattle.record_table.specs.Fields.{Texts, is_name}
use Rattle.record_read.specs.Reader.{Reader, is_broken}
use Rattle.record_read.specs.Fields.{ReadsText, IsNamed, are_bytes}
use Rattle.record_read.proofs.Sized.{named_reads}
use Rattle.type_read.specs.Fields.{is_good}
use Rattle.type_read.proofs.Names.{no_name, no_bytes}
use Rattle.bitcode_read.specs.Head.Fronts.{ReadsFrontName}

pub name_some : (t : Texts) (old mid now : Reader) (text : Option Bytes) (name : Bytes) → ReadsText t.middle old mid text → IsNamed text mid (Some name) now → are_bytes name ≡ true → ReadsFrontName t old now (Some name)
name_some t old mid now None name h n bytes = absurd (cc (n.0))
name_some t old mid now (Some text) name h n bytes =
    let same : name ≡ (t.middle.read old.walk).0 = n.0 ∙ h.kept in
    record {
      value = (same, ap is_good (sym same) ∙ and_from (is_name name) (are_bytes name) (ap is_name n.0 ∙ n.1) bytes);
      reader = named_reads t.middle old mid now (Some text) (Some name) h n;
      broken = λ none. absurd (cc);
    }

pub name_none : (t : Texts) (old mid now : Reader) (text : Option Bytes) → ReadsText t.middle old mid text → IsNamed text mid None now → ReadsFrontName t old now None
name_none t old mid now None h n = record {
  value = no_bytes (t.middle.read old.walk).0 h.kept.0;
  reader = named_reads t.middle old mid now None None h n;
  broken = λ none. ap (λ (r : Reader). is_broken r.walk) n.1 ∙ h.kept.1;
}
name_none t old mid now (Some text) h n = record {
  value = no_name (t.middle.read old.walk).0 (ap is_name (sym h.kept) ∙ n.0);
  reader = named_reads t.middle old mid now (Some text) None h n;
  broken = λ none. n.2;
}
