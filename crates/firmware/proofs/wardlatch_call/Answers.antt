use Rattle.firmware.proofs.wardlatch_call.Goals as goal

pub shape_of-objects : goal.shape_of-objects
shape_of-objects c = c.call-r.auto.objects

pub shape_of-threads : goal.shape_of-threads
shape_of-threads c = c.call-r.auto.threads

pub shape_of-slots : goal.shape_of-slots
shape_of-slots c = c.call-r.auto.slots

pub returns : goal.returns
returns c = c.call-r.ensures
