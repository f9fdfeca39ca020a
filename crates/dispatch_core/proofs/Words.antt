-- The words that many proofs of this crate use, from one place.
pub use Rattle.change_record.specs.Tables.{Loose, Tables, empty_tables}
pub use Rattle.change_record.specs.Machine.{bfq_of, meaning, outbox_at, whole_at}
pub use Rattle.plain.specs.Machine.{Bfq, Blocks, Flight, Plain, WholeRequest, put}
pub use Rattle.plain.specs.Opening.{Limits, empty_service, opening, opening_bfq}
pub use Rattle.request_pool.specs.declared.RequestFields.{RequestFields as Request}
pub use Rattle.sector_core.specs.declared.bio.BioFields.{BioFields as Bio}
pub use Rattle.sector_core.specs.declared.bio.Op.{Op}
pub use Rattle.sector_core.specs.declared.bio.Outcome.{Outcome}
pub use Rattle.sector_core.specs.declared.bio.Effect.{Effect}
pub use Rattle.plain.specs.declared.seat.Seat.{Seat}
pub use Rattle.process_queue.specs.declared.Link.{Link}
pub use Rattle.sector_core.specs.declared.range.Range.{Range}
pub use Rattle.dispatch_core.specs.WellFormed.{IsBio, IsCompleted, IsOwned, IsQueued, IsRequeued, IsSlotOf, IsSound, IsWaiting, Kept, Placed, Ruled, Seated, WellFormed, at, bears, named, one, times}
pub use Rattle.plain.specs.Lists.{first_in, is_empty, numbers, seats}
pub use Rattle.plain.specs.Requests.{in_flight, is_gone, is_of, left_of, queued, range_of, request_at, requests_of, shape, size_of}
pub use Rattle.process_queue.specs.Merge.{bios_at, merge_place, place_of, shape_at}
pub use Rattle.process_queue.specs.Queue.{first_slot, insert_in, nth_slot, placed, queue_slots}
pub use Rattle.tag_set.specs.declared.Issue.{Issue}
pub use Rattle.plain.specs.declared.seat.InService.{InService}
pub use Rattle.plain.specs.declared.member.Member.{Member}
pub use Rattle.plain.specs.Classes.{Classes, same_times, time_of, with_member, with_vtimes}
pub use Rattle.plain.specs.Rules.{activate, activate_path, along, charge, charge_one, chosen_in, class_in, class_of, ended, expire, expire_one, finish_from, group_of, in_service, is_backlogged, is_idle, jumped, member_in, member_of, on_class, on_pick, out_of_service, picked, put_member, put_vtime, put_vtimes, rested, risen, select, served_more, service_in, stamp, stamped, stands, start_from, top}
pub use Rattle.dispatch_core.specs.Changes.{attached_tables, dropped_tables, ended_tables, entered, fewer_tables, finished_tables, gone_tables, joined_request, joined_slots, joined_tables, leaving_entry, left_tables, reaped_tables, requeued_tables, sent_again_tables, sent_next_tables, sent_tables, submitted_tables, with_bios, without_bios}
pub use Rattle.plain.specs.Sessions.{has_session, is_leaving, is_session, unreaped, with_unreaped}
pub use Rattle.plain.specs.Merge.{has_room, joins, joins_at, may_join, merge_of, same_op, shape_of}
pub use Rattle.plain.specs.Next.{has_start, next_of, starts, wanted}
pub use Rattle.plain.specs.Steps.Finish.{after_effect, after_finish, completed, content, delivered, effect_of, finish, finished, fits, rest_of_effect, result_of, seat_of, with_blocks, with_zeros}
pub use Rattle.plain.specs.Steps.Submit.{change_first, merge_in, needs_request, new_bio, payload_length, queue_with, submit, submitted, with_bio, woken}
pub use Rattle.dispatch_core.specs.Ranges.{HasFewSectors, count_at, count_of_bio, first_start, start_of_bio, total_count}
pub use Rattle.change_record.specs.Exchange.{after, tree_at}
