-- To prove: realms with the same measurement have the same events, or two messages that were hashed collide.
-- A page determines its fields
pub mod FieldsOfPages
-- so a message determines the measurement that it extends, and the part
pub mod OneMessageOneExtension
-- What is hashed consists of bytes: a descriptor has 256 bytes, and a measurement 64
pub mod MessagesAreBytes
-- so chains of parts that end in one measurement are the same, or two of their messages collide
pub mod ChainsFromTheirEnds
-- The pages of parameters determine them
pub mod PagesOfParameters
-- Events from their parts: those that lead to one measurement are the same, or two of their messages collide
pub mod EventsFromParts
-- Widths: the addresses of what accepted commands measure have 64 bits
pub mod AddressesFit
-- so an event fits if its other parts do
pub mod WidthsOfEvents
-- Any host: accepted commands measure exactly the parts of their events
pub mod EventsOfHosts
-- A launch: its measured parts are those of its events
pub mod EventsOfLaunches
-- and its events fit, because its types say so
pub mod LaunchesFit
-- Laws: a measurement binds the events of a launch, whoever built the realm
pub mod BoundByMeasurement
