use Rattle.ados_volume.proofs.Common.{readable, file_writable, IsKnown}
use Rattle.ados_volume.proofs.Kept.{put_holds}
use Rattle.ados_volume.proofs.places.PlaceCache.at.Goals as goal

pub place_at-place-requires-clause-readable : goal.place_at-place-requires-clause-readable
place_at-place-requires-clause-readable c = readable c.args.image.now c.args.file (file_writable c.args.image.now c.args.file c.requires.tree c.requires.file).lawful

pub place_at-place-requires-clause-near : goal.place_at-place-requires-clause-near
place_at-place-requires-clause-near c = c.of.ensures c.args.image.now c.requires.known

pub returns-clause-known : goal.returns-clause-known
returns-clause-known c =
    put_holds (IsKnown c.args.image.now) c.args.self.now.places c.args.file c.place_at-place.result c.put.new.self c.put.result c.put.ensures.entries c.put.ensures.err
    (record { is_file = c.requires.file; place_is = c.place_at-place.ensures.place }) c.requires.known
