-- What of a lock crosses threads: seats, what the table of words shares, leases, and what the lock keeps.
use denote.RattleType.{RattleType}
use denote.Param.Send.{IsSend, IsSync, Frees, part_keyless, sendable}
use denote.Struct.Struct.{Struct}
use denote.Struct.Owning.{shape}
use Rattle.std.specs.declared.alloc.Allocator as Allocator
use Rattle.std.proofs.Crossing.{crosses}
use Rattle.atomic_table.specs.declared.shared.TableRule.{Ghosts}
use Rattle.atomic_table.specs.contracts.shared.Seat.{the_row as seat_row}
use Rattle.atomic_table.specs.contracts.shared.Shared.{the_row as shared_row, the_type as shared_type}
use Rattle.atomic_table.specs.contracts.send_lease.SendLease.{the_row as lease_row}
use Rattle.atomic_table.proofs.Sent.{seat_keyless, shares_keyless}
use Rattle.atomic_table.proofs.Rights.{right_send}
use Rattle.drt_lock.specs.contracts.kept.Kept.{the_row as kept_row}

-- these three are atomic_table's own, which it doesn't export
pub seat_send : (S V : RattleType) → IsSend S → IsSend (seat_row S V)
seat_send S V s = record { owned = λ d vs. ((λ vss. (tt, ((λ uss. (tt, tt)), tt))), seat_keyless S s V.coded.code d.table_id d.id d.me); leaving = λ k f vs. tt }

pub shared_sync : (S V K P : RattleType) (g : Ghosts P.Denot S.Denot V.Denot K.Denot) → IsSend S → IsSync (shared_row S V K P g)
shared_sync S V K P g s =
    let fields : IsSync (Struct (shape (shared_type S V K P g))) = search sendable depth 20 in
    record { shared = λ d b o ν. (fields.shared (d.words, (d.slots, (tt, tt))) b o ν, shares_keyless S s V.coded.code d.table_id (g.holds d.key) d.words d.slots ν) }

pub lease_sync : (T A : RattleType) (g : Allocator.Ghosts A.Denot) → IsSend A → Frees g g.dealloc_token → IsSync (lease_row T A g)
lease_sync T A g s f = record { shared = λ d b o ν q. part_keyless (lease_row T A g) (right_send T A g f) q d b o }

pub kept_sync : (T : RattleType) → IsSend T → IsSync (kept_row T)
kept_sync T s = search (sendable, crosses, shared_sync, lease_sync) depth 24
