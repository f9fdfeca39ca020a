use Rattle.script_line.proofs.Ends.{stops_write, stops_unread, stops_memory, one_more, bad_line_end}
use Rattle.script_line.proofs.ended.end_line.Goals as goal

pub returns-then-not-write_whole-clause-ran : goal.returns-then-not-write_whole-clause-ran
returns-then-not-write_whole-clause-ran g c = λ r0 r1 w0 c0 after s whole.
    stops_write g.C.Console.prints r0 r1 w0 _ _ c0 _ _ c.args.held.now.count c.args.held.now.begun.items after c.run_line.new.text.items
    s c.requires whole
    (rw (← c.as_slice-line.ensures.value) c.in-Printed.ensures)
    (rw (← c.as_slice.ensures.value) c.if-not-write_whole.ensures)

pub returns-in-Bad-clause-ran : goal.returns-in-Bad-clause-ran
returns-in-Bad-clause-ran g c = λ r0 r1 w0 c0 after s whole.
    stops_unread g.C.Console.prints r0 r1 w0 _ _ c0 _ _ c.args.held.now.count c.args.held.now.begun.items after
    s c.requires whole
    (rw (← c.as_slice-line.ensures.value) c.in-Bad.ensures.0) c.in-Bad.ensures.1 c.bad_line.result c.bad_line.ensures

pub returns-in-NoMemory-clause-ran : goal.returns-in-NoMemory-clause-ran
returns-in-NoMemory-clause-ran g c = λ r0 r1 w0 c0 after s whole.
    stops_memory g.C.Console.prints r0 r1 w0 _ c0 _ _ c.args.held.now.count c.args.held.now.begun.items after
    s c.requires whole
    (rw (← c.as_slice-line.ensures.value) c.in-NoMemory.ensures.0)
    (rw (← c.as_slice-line.ensures.value) c.in-NoMemory.ensures.1)

pub returns-else-not-write_whole-clause-ran : goal.returns-else-not-write_whole-clause-ran
returns-else-not-write_whole-clause-ran g c = λ r0 r1 w0 c0 after s whole.
    one_more g.C.Console.prints r0 r1 w0 _ _ c0 _ _ c.args.held.now.count c.args.held.now.begun.items after c.run_line.new.text.items
    s c.requires
    (rw (← c.as_slice-line.ensures.value) c.in-Printed.ensures)
    (rw (← c.as_slice.ensures.value) c.if-not-write_whole.ensures)

pub returns-in-Bad-clause-cause : goal.returns-in-Bad-clause-cause
returns-in-Bad-clause-cause g c = bad_line_end _ _ _ c.bad_line.result c.bad_line.ensures
