use Rattle.rim_show.proofs.image.image_text.Goals as goal

pub returns : goal.returns
returns c = rw (
  c.in_ok-push_field-5.ensures,
  c.extent.ensures,
  c.in_ok-push_field-4.ensures,
  c.load_offset.ensures,
  c.in_ok-push_field-3.ensures,
  c.in_ok-push_field-2.ensures,
  c.in_ok-push_field.ensures,
  c.new-text.ensures.items,
)
