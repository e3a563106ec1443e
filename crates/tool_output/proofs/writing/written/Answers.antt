use Rattle.tool_output.proofs.Formats.{text_is, bitcode_is}
use Rattle.tool_output.proofs.writing.written.Goals as goal

pub returns-in-CanonicalText : goal.returns-in-CanonicalText
returns-in-CanonicalText c = rw (c.in-CanonicalText.is, text_is) c.print_text.ensures

pub returns-in-Bitcode : goal.returns-in-Bitcode
returns-in-Bitcode c = rw (c.in-Bitcode.is, bitcode_is) c.write.ensures
