use Rattle.type_read.proofs.OnArena.TypesTold.{element_within, bytes_then, bytes_else, bytes_not}
use Rattle.type_read.proofs.arena.type_tests.holds_bytes.Goals as goal

pub is_byte-requires : goal.is_byte-requires
is_byte-requires c = element_within c.args.types.now c.type_count-good.ensures.good c.in-Some.ty c.get.result.now c.get.ensures c.in-Array.length c.in-Array.element c.in-Array.is

pub returns-then-length-size : goal.returns-then-length-size
returns-then-length-size c = rw c.in-Some.is (bytes_then c.args.types.now c.type_count-good.ensures.good c.in-Some.ty c.get.result.now c.get.ensures c.args.size c.in-Array.length c.in-Array.element c.is_byte.result c.in-Array.is c.if-length-size.true c.is_byte.ensures)

pub returns-else-length-size : goal.returns-else-length-size
returns-else-length-size c = rw c.in-Some.is (bytes_else c.args.types.now c.type_count-good.ensures.good c.in-Some.ty c.get.result.now c.get.ensures c.args.size c.in-Array.length c.in-Array.element c.in-Array.is c.if-length-size.false)

pub returns-in_default-get : goal.returns-in_default-get
returns-in_default-get c = rw c.in-Some.is (bytes_not c.args.types.now c.type_count-good.ensures.good c.in-Some.ty c.get.result.now c.get.ensures c.args.size (λ n part is. c.in_default-get.not-Array n part is))
