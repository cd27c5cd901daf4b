-- The definition of a request, computed on lines whose requests are known.
use Rattle.std.proofs.Common.{◌≡◌, Option, Some, None, codes, refl}
use Rattle.graph_value.specs.declared.id.VertexId.{VertexId}
use Rattle.graph_value.specs.declared.id.EdgeId.{EdgeId}
use Rattle.graph_value.specs.declared.id.Oid.TheVariants as oid
use Rattle.undo_delta.specs.declared.ask.Ask.TheVariants.{DeleteVertex, AddLabel, RemoveLabel, CreateEdge, DeleteEdge}
use Rattle.world_model.specs.declared.event.Event.{Event}
use Rattle.world_model.specs.declared.event.Event.TheVariants.{Next, Read, Write, Abort, Mark, Lift, Stats}
use Rattle.world_model.specs.declared.event.When.TheVariants.{Own, At}
use Rattle.world_model.specs.declared.event.Kind.TheVariants as kind
use Rattle.event_lines.specs.declared.request.Request.{Request}
use Rattle.event_lines.specs.declared.request.Wish.TheVariants as wish
use Rattle.event_lines.specs.Words.{number_below, name_of, oid_of, vertex_of}
use Rattle.event_lines.specs.Values.{json_value}
use Rattle.event_lines.specs.Request.{plain_event, when_of, read_event, kind_of, next_after, next_of, next_event, delete_event, label_event, unlabel_event, edge_event, set_event, property_event, lift_event, worded_event, words_event, request_of}

abbrev asks : Event → Option Request
asks event = Some (record { caller = 1; wish = wish.Event event })

abbrev v0 : VertexId
v0 = record { 0 = 0 }

abbrev e1 : EdgeId
e1 = record { 0 = 1 }

an_abort : request_of (codes "1 abort") ≡ asks Abort
unfolding request_of number_below words_event plain_event
an_abort = refl

a_mark : request_of (codes "1 mark") ≡ asks Mark
unfolding request_of number_below words_event plain_event
a_mark = refl

counts : request_of (codes "1 stats") ≡ asks Stats
unfolding request_of number_below words_event plain_event
counts = refl

a_lift : request_of (codes "1 lift e1") ≡ asks (Lift (oid.Edge e1))
unfolding request_of number_below words_event worded_event lift_event oid_of
a_lift = refl

an_installation : request_of (codes "1 install v0") ≡ Some (record { caller = 1; wish = wish.Install (oid.Vertex v0) })
unfolding request_of number_below oid_of
an_installation = refl

at_an_instant : request_of (codes "1 read e1 at 7") ≡ asks (Read (oid.Edge e1) (At 7))
unfolding request_of number_below words_event worded_event read_event when_of oid_of
at_an_instant = refl

the_first : request_of (codes "1 next vertex first own") ≡ asks (Next kind.Vertex None Own)
unfolding request_of number_below words_event worded_event next_event kind_of next_of when_of
the_first = refl

the_next : request_of (codes "1 next edge after 3 at 7") ≡ asks (Next kind.Edge (Some 3) (At 7))
unfolding request_of number_below words_event worded_event next_event kind_of next_of next_after when_of
the_next = refl

no_vertex : request_of (codes "1 delete v0") ≡ asks (Write (DeleteVertex v0))
unfolding request_of number_below words_event worded_event delete_event oid_of
no_vertex = refl

no_edge : request_of (codes "1 delete e1") ≡ asks (Write (DeleteEdge e1))
unfolding request_of number_below words_event worded_event delete_event oid_of
no_edge = refl

a_label : request_of (codes "1 label v0 label") ≡ asks (Write (AddLabel v0 (codes "label")))
unfolding request_of number_below words_event worded_event label_event vertex_of oid_of name_of
a_label = refl

no_label : request_of (codes "1 unlabel v0 P") ≡ asks (Write (RemoveLabel v0 (codes "P")))
unfolding request_of number_below words_event worded_event unlabel_event vertex_of oid_of name_of
no_label = refl

an_edge : request_of (codes "1 edge v0 T v0") ≡ asks (Write (CreateEdge v0 (codes "T") v0))
unfolding request_of number_below words_event worded_event edge_event vertex_of oid_of name_of
an_edge = refl

-- WHAT IS NO REQUEST

label_of_an_edge : request_of (codes "1 label e0 P") ≡ None
unfolding request_of number_below words_event worded_event label_event vertex_of oid_of name_of
label_of_an_edge = refl

edge_to_an_edge : request_of (codes "1 edge v0 T e1") ≡ None
unfolding request_of number_below words_event worded_event edge_event vertex_of oid_of name_of
edge_to_an_edge = refl

lift_of_two : request_of (codes "1 lift v0 v0") ≡ None
unfolding request_of number_below words_event worded_event lift_event
lift_of_two = refl

-- nothing is said of a piece but its object
install_with_more : request_of (codes "1 install v0 5") ≡ None
unfolding request_of number_below words_event worded_event oid_of
install_with_more = refl

install_of_nothing : request_of (codes "1 install") ≡ None
unfolding request_of number_below words_event plain_event
install_of_nothing = refl

two_spaces : request_of (codes "1 read  v0 own") ≡ None
unfolding request_of number_below words_event worded_event read_event when_of oid_of
two_spaces = refl

a_space_behind : request_of (codes "1 begin ") ≡ None
unfolding request_of number_below words_event worded_event plain_event
a_space_behind = refl

another_case : request_of (codes "1 Mark") ≡ None
unfolding request_of number_below words_event plain_event
another_case = refl

high_caller : request_of (codes "4294967296 mark") ≡ None
unfolding request_of number_below words_event plain_event
high_caller = refl

own_and_more : request_of (codes "1 read v0 own 1") ≡ None
unfolding request_of number_below words_event worded_event read_event when_of oid_of
own_and_more = refl

-- white space stands before the value
two_before_a_value : request_of (codes "1 set v0 k  1") ≡ None
unfolding request_of number_below set_event property_event oid_of name_of json_value
two_before_a_value = refl

-- and behind it
one_behind_a_value : request_of (codes "1 set v0 k 1 ") ≡ None
unfolding request_of number_below set_event property_event oid_of name_of json_value
one_behind_a_value = refl
