-- An address and the box behind it may cross threads, since the cache may.
use mir.Raw.{raw}
use base.Shift.{Keyless}
use denote.Memory.{lone}
use denote.RawPtr.{Ptr}
use denote.Struct.Owning.{to, fields, shape}
use denote.Struct.Struct.{exits_of}
use denote.Param.Send.{AllSend, IsSend, owning_send, sendable, struct_send}
use Rattle.std.specs.Prelude.{Option, Some, None}
use Rattle.std.proofs.Crossing.{frees}
use Rattle.std_alloc.proofs.SendSync.{lies, quiet}
use Rattle.std.specs.contracts.impls.GlobalAllocator.TheImpl.{ghosts}
use Rattle.luffapricot_c.proofs.Addresses.{R, Z}
use Rattle.luffapricot_c.proofs.Crosses.{cache}
use Rattle.luffapricot_c.specs.Behind.{held_owns}
use Rattle.luffapricot_c.specs.contracts.address.Address.{the_row, the_type}

keyless : (a : Z.Denot) (p : Ptr) (held : Option R.Denot) → Keyless (held_owns (ghosts.dealloc_token a) R p held)
keyless a p None = tt
keyless a p (Some x) = (lies R cache p x, frees.frees a (raw (lone R.mir)) p)

all : AllSend (fields the_type)
all = (search sendable, (search sendable depth 20, tt))

pub send : IsSend the_row
send = owning_send the_type all (λ d. keyless d.alloc d.at d.held)
    (λ k. quiet (to the_type) (exits_of k (fields the_type)) ((struct_send (shape the_type) all).leaving k))
