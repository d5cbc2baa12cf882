use denote.Param.Send.{sendable}
use Rattle.c_types.proofs.TreesCross.{Typed-send, Typed-sync}
use Rattle.front_tests.proofs.types.typed_crosses.Goals as goal

pub crosses_threads-requires-send-T : goal.crosses_threads-requires-send-T
crosses_threads-requires-send-T c κs = search (sendable, Typed-send)

pub crosses_threads-requires-sync-T : goal.crosses_threads-requires-sync-T
crosses_threads-requires-sync-T c κs = search (sendable, Typed-sync)
