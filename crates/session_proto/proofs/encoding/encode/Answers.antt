use Rattle.std.proofs.Common.{◌++◌, ◌∷◌, [], ℕ, List, length, drop, ap, ◌∙◌}
use Rattle.session_proto.specs.Frame.{framed}
use Rattle.session_proto.proofs.Frames.{frame_put}
use Rattle.session_proto.proofs.encoding.encode.Goals as goal

pub returns : goal.returns
returns g c = (
  c.requires,
  frame_put c.put_body.new.out.items c.extend_from_slice.new.self.items (g.S.Side.body c.args.value.now) c.put_length.new.frame c.put_body.new.out.len c.in_ok-put_body.ensures
      (ap length c.in_ok-extend_from_slice.ensures.items ∙ ap (λ (x : List ℕ). length (x ++ 0 ∷ 0 ∷ 0 ∷ 0 ∷ [])) c.new-frame.ensures.items)
      c.put_body.new.out.ok.0 (c.put_length.ensures ∙ ap (λ (x : List ℕ). framed (drop 4 x)) c.deref_mut.ensures.value),
)
