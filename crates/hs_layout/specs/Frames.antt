-- The frames of layout, and what each has seen.
use Rattle.std.specs.Prelude.{Bool, true, false, ◌||◌, ◌&&◌, not}
use Rattle.hs_layout.specs.declared.role.Role.{Role}
use Rattle.hs_layout.specs.declared.role.Role.TheVariants as role
use Rattle.hs_layout.specs.declared.frame.Context.{Context}
use Rattle.hs_layout.specs.declared.frame.Context.TheVariants as context
use Rattle.hs_layout.specs.declared.frame.Sort.{Sort}
use Rattle.hs_layout.specs.declared.frame.Sort.TheVariants as sort
use Rattle.hs_layout.specs.declared.frame.Lead.{Lead}
use Rattle.hs_layout.specs.declared.frame.Lead.TheVariants as lead
use Rattle.hs_layout.specs.declared.frame.Seen.{Seen}
use Rattle.hs_layout.specs.declared.frame.Frame.{Frame}
use Rattle.hs_layout.specs.Notes.{is_none_left}

-- a block whose brace is put
abbrev pub is_block : Context → Bool
is_block context.Outside = false
is_block context.Brace = false
is_block _ = true

abbrev pub is_put_in : Sort → Context → Bool
is_put_in sort.Context c = is_block c
is_put_in _ c = false

abbrev pub is_put : Frame → Bool
is_put f = is_put_in f.sort f.context

abbrev pub nothing_seen : Seen
nothing_seen = record { lead = lead.Nothing; bar = false; guard = false; body = false; bound = false; plain = false }

abbrev pub is_nothing : Lead → Bool
is_nothing lead.Nothing = true
is_nothing _ = false

abbrev pub is_unseen : Seen → Bool
is_unseen s = is_nothing s.lead && not (s.bar || (s.guard || (s.body || (s.bound || s.plain))))

-- a frame that a semicolon leaves as it is
abbrev pub is_renewed : Bool → Frame → Bool
is_renewed keep f = is_unseen f.seen && (keep || is_none_left f.notes)

-- only variables, operators in parentheses and commas so far, and one more
abbrev pub more_names : Lead → Lead
more_names lead.Nothing = lead.Names
more_names lead.Names = lead.Names
more_names lead.Fixity = lead.Fixity
more_names _ = lead.Other

-- a lexeme that isn't: alone it is the lead
abbrev pub other_lead : Lead → Lead → Lead
other_lead own lead.Nothing = own
other_lead own lead.Fixity = lead.Fixity
other_lead own _ = lead.Other

-- what brackets hold counts where they close
abbrev pub lead_after : Role → Lead → Lead
lead_after role.OpenParen l = l
lead_after role.CloseParen l = l
lead_after role.CloseBracket l = l
lead_after role.CloseBrace l = l
lead_after role.Variable l = more_names l
lead_after role.Comma l = more_names l
lead_after role.Operator l = other_lead lead.Operator l
lead_after role.Fixity l = other_lead lead.Fixity l
lead_after _ l = other_lead lead.Other l

abbrev pub not_plain : Lead → Seen → Seen
not_plain l s = record { lead = l; bar = s.bar; guard = s.guard; body = s.body; bound = s.bound; plain = false }

abbrev pub seen_with : Role → Lead → Seen → Seen
seen_with role.Bar l s = record { lead = l; bar = true; guard = true; body = s.body; bound = false; plain = s.plain }
seen_with role.Equals l s = record { lead = l; bar = s.bar; guard = false; body = s.body || not s.bar; bound = true; plain = true }
seen_with role.Arrow l s = record { lead = l; bar = s.bar; guard = false; body = s.body || not s.bar; bound = s.bound; plain = s.plain }
seen_with role.Lambda l s = not_plain l s
seen_with role.Typed l s = not_plain l s
seen_with _ l s = record { lead = l; bar = s.bar; guard = s.guard; body = s.body; bound = s.bound; plain = s.plain }

-- what a frame has seen behind a further lexeme directly in it
abbrev pub see : Role → Seen → Seen
see r s = seen_with r (lead_after r s.lead) s

-- the lexemes are a list of names or a fixity declaration, or stand in a guard
abbrev pub is_listing : Lead → Bool → Bool
is_listing lead.Nothing guard = true
is_listing lead.Names guard = true
is_listing lead.Fixity guard = true
is_listing _ guard = guard

abbrev pub takes_comma : Context → Seen → Bool
takes_comma context.Do s = false
takes_comma _ s = is_listing s.lead s.guard
