use Rattle.record_table.specs.Fields as fields
use Rattle.type_read.proofs.OnArena.Steps.{still_known}
use Rattle.bitcode_read.proofs.OnHead.Walked.{alignment_still}
use Rattle.bitcode_read.proofs.OnEntry.Fields.{fields_read, goes_field}
use Rattle.bitcode_read.proofs.entry.holding.read_fields.Goals as goal

pub returns : goal.returns
returns c =
    fields_read c.args.texts.now c.args.m.now c.read_front_name.new.reader c.read_linkage-linkage.new.reader c.read_flag-constant.new.reader c.read_type-ty.new.m c.read_alignment-alignment.new.reader c.read_initialiser.new.m
    c.in_ok-name.name c.read_linkage-linkage.result c.read_flag-constant.result c.read_type-ty.result c.read_alignment-alignment.result c.in_ok-initialiser.initialiser
    c.in_ok-name.ensures c.read_linkage-linkage.ensures c.read_flag-constant.ensures c.read_type-ty.ensures.takes c.read_type-ty.ensures.reads c.read_alignment-alignment.ensures c.in_ok-initialiser.ensures

pub read_initialiser-requires : goal.read_initialiser-requires
read_initialiser-requires c =
    let m4 = c.read_type-ty.new.m in
    let r5 = c.read_alignment-alignment.new.reader in
    still_known m4 (record m4 { reader = r5 }) c.read_type-ty.result (goes_field fields.alignment m4 r5 c.read_alignment-alignment.ensures.reader alignment_still) c.read_type-ty.ensures.known
