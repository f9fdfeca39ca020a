use Rattle.std.proofs.Common.{◌∷◌, []}
use Rattle.script_line.proofs.Sources.{NoSource, none_first, none_after, none_last, read_none, more, sourced_fitted}
use Rattle.script_line.proofs.sourced.sourced.Goals as goal

pub returns-in_err-session : goal.returns-in_err-session
returns-in_err-session c =
    let seat = c.in_ok-seat.ensures in
    let none : NoSource 3 c.in_ok-seat.after_seat.now = none_first 2 c.in_ok-seat.after_seat.now c.in_err-session.ensures.none in
    read_none c.args.text.now _ c.from_residual-in_err-session.ensures
    (none_after 3 c.args.text.now c.in_ok-seat.after_seat.now c.in_ok-seat.seat seat.fits seat.tail seat.found none)

pub returns-in_err-start : goal.returns-in_err-start
returns-in_err-start c =
    let seat = c.in_ok-seat.ensures in
    let session = c.in_ok-session.ensures in
    let none : NoSource 2 c.in_ok-session.after_session.now = none_first 1 c.in_ok-session.after_session.now c.in_err-start.ensures.none in
    read_none c.args.text.now _ c.from_residual-in_err-start.ensures
    (none_after 3 c.args.text.now c.in_ok-seat.after_seat.now c.in_ok-seat.seat seat.fits seat.tail seat.found
    (none_after 2 c.in_ok-seat.after_seat.now c.in_ok-session.after_session.now c.in_ok-session.session session.fits session.tail session.found none))

pub returns-in_err-count : goal.returns-in_err-count
returns-in_err-count c =
    let seat = c.in_ok-seat.ensures in
    let session = c.in_ok-session.ensures in
    let start = c.in_ok-start.ensures in
    let none : NoSource 1 c.in_ok-start.after_start.now = none_first 0 c.in_ok-start.after_start.now c.in_err-count.ensures.none in
    read_none c.args.text.now _ c.from_residual-in_err-count.ensures
    (none_after 3 c.args.text.now c.in_ok-seat.after_seat.now c.in_ok-seat.seat seat.fits seat.tail seat.found
    (none_after 2 c.in_ok-seat.after_seat.now c.in_ok-session.after_session.now c.in_ok-session.session session.fits session.tail session.found
    (none_after 1 c.in_ok-session.after_session.now c.in_ok-start.after_start.now c.in_ok-start.start start.fits start.tail start.found none)))

pub returns-in_err-from : goal.returns-in_err-from
returns-in_err-from c =
    let seat = c.in_ok-seat.ensures in
    let session = c.in_ok-session.ensures in
    let start = c.in_ok-start.ensures in
    let count = c.in_ok-count.ensures in
    read_none c.args.text.now _ c.from_residual-in_err-from.ensures
    (none_after 3 c.args.text.now c.in_ok-seat.after_seat.now c.in_ok-seat.seat seat.fits seat.tail seat.found
    (none_after 2 c.in_ok-seat.after_seat.now c.in_ok-session.after_session.now c.in_ok-session.session session.fits session.tail session.found
    (none_after 1 c.in_ok-session.after_session.now c.in_ok-start.after_start.now c.in_ok-start.start start.fits start.tail start.found
    (none_after 0 c.in_ok-start.after_start.now c.in_ok-count.last.now c.in_ok-count.count count.fits count.tail count.found
    (none_last c.in_ok-count.last.now c.in_err-from.ensures.none)))))

pub returns : goal.returns
returns c =
    let seat = c.in_ok-seat.ensures in
    let session = c.in_ok-session.ensures in
    let start = c.in_ok-start.ensures in
    let count = c.in_ok-count.ensures in
    let from = c.in_ok-from.ensures in
    let f = c.in_ok-from.from in
    sourced_fitted c.args.text.now c.in_ok-seat.seat c.in_ok-session.session c.in_ok-start.start c.in_ok-count.count f c.write_from.result
    (seat.fits, (session.fits, (start.fits, (count.fits, tt)))) from.fits
    (more c.args.text.now c.in_ok-seat.after_seat.now c.in_ok-seat.seat (c.in_ok-session.session ∷ c.in_ok-start.start ∷ c.in_ok-count.count ∷ []) f seat.found
    (more c.in_ok-seat.after_seat.now c.in_ok-session.after_session.now c.in_ok-session.session (c.in_ok-start.start ∷ c.in_ok-count.count ∷ []) f session.found
    (more c.in_ok-session.after_session.now c.in_ok-start.after_start.now c.in_ok-start.start (c.in_ok-count.count ∷ []) f start.found
    (more c.in_ok-start.after_start.now c.in_ok-count.last.now c.in_ok-count.count [] f count.found from.found))))
    c.write_from.ensures
